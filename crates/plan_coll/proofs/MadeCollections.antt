-- What the changes that make a collection make of the grid, and what the row of the operation comes to then.
use Rattle.std.proofs.Common.{◌≡◌, ◌≢◌, inr, ℕ, suc, ◌+◌, ◌-◌, true, false, List, [], ◌∷◌, ◌++◌, length, Some, Ok, Err, refl, sym, ap, ◌∙◌, eq-eqb, arith}
use Rattle.std.specs.Prelude.{◌==◌, is_some, ⊤}
use Rattle.std.specs.List.{list_all}
use Rattle.grid_model.specs.Maps.{put}
use Rattle.grid_model.specs.MapLists.{size}
use Rattle.grid_model.specs.Names.{Text, Path, parent as up}
use Rattle.grid_model.specs.Grid.{Grid}
use Rattle.grid_model.specs.Refusing.{Or, ◌>>=◌, unless, refuse}
use Rattle.grid_model.specs.Bounds.{within}
use Rattle.grid_model.specs.Deeds.{Act, changes}
use Rattle.grid_model.specs.Levels.{may}
use Rattle.grid_model.specs.NewRows.{IsNewAt, with_collection_row}
use Rattle.grid_model.specs.Rows.{Cat, collection_cmp, has_collection}
use Rattle.grid_model.specs.RowPaths.{collection_path, collection_at}
use Rattle.grid_model.specs.RowGrids.{grid_of, collection_place, user_name}
use Rattle.grid_model.specs.Applying.{IsMade, apply, apply_all, where_fits, is_user}
use Rattle.grid_model.specs.Operations.Common.{is_taken, inherits, needs, with_new_item}
use Rattle.grid_model.specs.Operations.Collections.{with_collection, mkdir_row}
use Rattle.grid_model.specs.Operations.Table.{mkdir, row}
use Rattle.grid_model.specs.declared.deltas.Delta.{Delta}
use Rattle.grid_model.specs.declared.deltas.Delta.TheVariants as delta
use Rattle.grid_model.specs.declared.deltas.CollectionRow.{CollectionRow}
use Rattle.grid_model.specs.declared.grid.ItemKind.TheVariants as kind
use Rattle.grid_model.specs.declared.grid.Level.TheVariants.{Write}
use Rattle.grid_model.specs.declared.refusal.Refusal.{Refusal}
use Rattle.grid_model.specs.declared.refusal.Refusal.TheVariants.{NoAccess, Exists}
use Rattle.grid_model.specs.declared.refusal.What.TheVariants.{Collections, Access as Entries}
use Rattle.grid_model.proofs.Below.{parent-push}
use Rattle.grid_model.proofs.Comparing.{path_cmp_total, path_cmp-IsAntisymmetric}
use Rattle.grid_model.proofs.FreePlaces.{collection_fits-new}
use Rattle.grid_model.proofs.FoundRows.{length-new}
use Rattle.grid_model.proofs.NewCollections.{at_of, others, path-kept}
use Rattle.tables_laws.proofs.Rows.{any_from_in, new_in_with_row}
use Rattle.tables_laws.proofs.Numbered.{put_found}
use Rattle.tables_laws.proofs.LookUps.{has-collections}
use Rattle.tables_laws.proofs.NewCollections.{grid-new_collection}
use Rattle.tables_laws.proofs.Places.{place_is, child_place}
use Rattle.tables_laws.proofs.Sound.{IsSound, sound-apply, sound-apply_all}
use Rattle.plan_base.specs.Found.{LiesIn}
use Rattle.plan_base.specs.NewItems.{new_entries}
use Rattle.plan_base.specs.Plans.{Changes}
use Rattle.plan_base.proofs.AtPaths.{sound_of, free-not_taken, user_known, paths_of}
use Rattle.plan_base.proofs.Mere.{is_mere, plan_of, new_entries-mere}
use Rattle.plan_base.proofs.NewAccess.{HasNew, GivesNew, gives_new, hands-inherits}
use Rattle.plan_base.proofs.OtherMaps.{put-new}
use Rattle.plan_base.proofs.PutEntries.{with_entries}
use Rattle.plan_base.proofs.Sizes.{size-collections, size-access}
use Rattle.plan_coll.specs.NewCollections.{MakesCollection}

-- ---- the row of the operation, test by test

abbrev tests : Or ⊤ → Or ⊤ → Or ⊤ → Or ⊤ → Grid → Or Act
tests allowed free few some g = allowed >>= (λ _. free >>= (λ _. few >>= (λ _. some >>= (λ _. Ok (changes g)))))

abbrev tests_in : Grid → Text → Path → Path → Or Act
tests_in g user p above =
    tests (needs g user above Write) (refuse (is_taken g p) Exists) (within Collections (size (with_collection g user above p).collections))
    (within Entries (size (with_collection g user above p).access)) (with_collection g user above p)

module _ (c : Cat) (made : IsMade c) (user parent : ℕ) (p : Path) (its_user : is_user c user ≡ true) (inside : LiesIn c p parent) where
  -- the row, once the collection above is found
  in_row : mkdir_row (grid_of c) (user_name c user) p ≡ tests_in (grid_of c) (user_name c user) p inside.above
  in_row = ap (λ (x : Or Path). x >>= tests_in (grid_of c) (user_name c user) p) inside.is_above

  module _ (allowed : may (grid_of c) (user_name c user) inside.above Write ≡ true) (none : is_taken (grid_of c) p ≡ false) (deltas : List Delta) (makes : MakesCollection c user parent p deltas) where
    abbrev r : CollectionRow
    r = makes.row

    abbrev one : Cat
    one = with_collection_row c r

    front_is : makes.is_row.front ≡ inside.above
    front_is =
        let both : Some makes.is_row.front ≡ Some inside.above = sym (parent-push makes.is_row.front r.name) ∙ ap up (sym makes.is_row.path_is) ∙ inside.parent_is in
        cc

    -- as the row that hands nothing on
    new : IsNewAt c (record r { inherit = false }) p
    new = record {
      some_id = makes.is_row.some_id;
      fresh = makes.is_row.fresh;
      free = record {
        above = makes.is_row.front;
        parent = ap (collection_at c) front_is ∙ inside.at ∙ ap Some (sym makes.is_row.parent_is);
        path_is = makes.is_row.path_is;
        named = makes.is_row.named;
        no_collection = (free-not_taken c made p none).no_collection;
        no_object = (free-not_taken c made p none).no_object;
      };
      plain = refl;
    }

    applied_row : apply c (delta.Collection r) ≡ Ok one
    applied_row = ap (λ b. where_fits b 5 one) (collection_fits-new c (paths_of c made) (sound_of c made).cat (record r { inherit = false }) p new)

    one_sound : IsSound one
    one_sound = sound-apply c one (delta.Collection r) (sound_of c made) applied_row

    parent_path : collection_path c r.parent ≡ Some inside.above
    parent_path = ap (collection_path c) makes.is_row.parent_is ∙ (at_of c parent inside.above inside.at).path

    grid_one : grid_of one ≡ record (grid_of c) { collections = put (grid_of c).collections p r.inherit }
    grid_one =
        grid-new_collection made.0 c one r made.1 makes.is_row.some_id makes.is_row.fresh applied_row
        ∙ ap (λ (q : Path). record (grid_of c) { collections = put (grid_of c).collections q r.inherit })
        (ap (λ (q : Path). q ++ r.name ∷ []) (place_is c r.parent inside.above parent_path ∙ sym front_is) ∙ sym makes.is_row.path_is)

    new_place : collection_place (collection_path one) r.id ≡ p
    new_place =
        child_place one one_sound r.id r makes.is_row.some_id (put_found (λ (x : CollectionRow). x.id) c.collections r)
        ∙ ap (λ (q : Path). q ++ r.name ∷ []) (place_is one r.parent inside.above (kept ∙ parent_path) ∙ sym front_is) ∙ sym makes.is_row.path_is
      where
        kept : collection_path one r.parent ≡ collection_path c r.parent
        kept = path-kept c r makes.is_row.fresh r.parent ((paths_of c made).collections r.parent (ap (has_collection c) makes.is_row.parent_is ∙ (at_of c parent inside.above inside.at).there))

    has_new : HasNew c one kind.Collection r.id p
    has_new = record {
      sound = one_sound;
      gives = refl;
      there = any_from_in (λ x. x.id == r.id) one.collections r (new_in_with_row collection_cmp c.collections r) (eq-eqb r.id r.id refl);
      place = new_place;
      users = refl;
      entries = refl;
      access = ap (λ (g : Grid). g.access) grid_one;
      fresh = makes.is_row.fresh;
    }

    given : GivesNew c one (with_new_item (grid_of c) (user_name c user) inside.above p) (new_entries c user parent kind.Collection r.id)
    given = gives_new c made user parent (user_known c user its_user) inside.above p inside.at none one kind.Collection r.id has_new

    abbrev after : Cat
    after = with_entries one given.rows

    applied : apply_all c deltas ≡ Ok after
    applied =
        ap (apply_all c) makes.deltas_are
        ∙ ap (λ x. elim x [ Ok next ↦ apply_all next (new_entries c user parent kind.Collection r.id) | Err cause ↦ Err cause ]) applied_row ∙ given.applied

    grid_after : grid_of after ≡ with_collection (grid_of c) (user_name c user) inside.above p
    grid_after =
        given.grid ∙ ap (λ (g : Grid). record g { access = with_new_item (grid_of c) (user_name c user) inside.above p }) grid_one
        ∙ ap (λ b. record (grid_of c) { collections = put (grid_of c).collections p b; access = with_new_item (grid_of c) (user_name c user) inside.above p })
        (makes.is_row.inherit_is ∙ hands-inherits c (sound_of c made) parent inside.above inside.at)

    after_sound : IsSound after
    after_sound = sound-apply_all deltas c after (sound_of c made) applied

    collections_then : size (with_collection (grid_of c) (user_name c user) inside.above p).collections ≡ length c.collections + 1
    collections_then =
        ap (λ (g : Grid). size g.collections) (sym grid_after) ∙ size-collections after after_sound
        ∙ plus_one (length one.collections) (length c.collections) (length-new collection_cmp c.collections r (others c r makes.is_row.fresh))
      where
        plus_one : (n m : ℕ) → n ≡ suc m → n ≡ m + 1
        plus_one n m e = omega (arith, e)

    access_then : (n : ℕ) → n ≡ length deltas - 1 → size (with_collection (grid_of c) (user_name c user) inside.above p).access ≡ length c.entries + n
    access_then n e =
        ap (λ (g : Grid). size g.access) (sym grid_after) ∙ size-access after after_sound ∙ given.count
        ∙ less_one (length c.entries) (length (new_entries c user parent kind.Collection r.id)) (length deltas) n (ap length makes.deltas_are) e
      where
        less_one : (a m l n : ℕ) → l ≡ suc m → n ≡ l - 1 → a + m ≡ a + n
        less_one a m l n long is = omega (arith, long, is)

    abbrev behind : Or ⊤ → Or ⊤ → Or Act
    behind few some = few >>= (λ _. some >>= (λ _. Ok (changes (with_collection (grid_of c) (user_name c user) inside.above p))))

    -- the row, where the user may and nothing is there
    to_room : (few some : Or ⊤) → few ≡ within Collections (length c.collections + 1) → some ≡ within Entries (size (with_collection (grid_of c) (user_name c user) inside.above p).access)
        → mkdir_row (grid_of c) (user_name c user) p ≡ behind few some
    to_room few some few_is some_is =
        in_row
        ∙ (λ i. tests (unless (allowed i) NoAccess) (refuse (none i) Exists) (within Collections (collections_then i)) (sym some_is i) (with_collection (grid_of c) (user_name c user) inside.above p))
        ∙ ap (λ x. behind x some) (sym few_is)

    pub too_many : (refusal : Refusal) → Err refusal ≡ within Collections (length c.collections + 1) → row (grid_of c) (user_name c user) (mkdir p) ≡ Err refusal
    too_many refusal is = to_room (Err refusal) (within Entries (size (with_collection (grid_of c) (user_name c user) inside.above p).access)) is refl

    pub too_many_entries : (refusal : Refusal) (x : ⊤) (n : ℕ) → Ok x ≡ within Collections (length c.collections + 1) → n ≡ length deltas - 1 → Err refusal ≡ within Entries (length c.entries + n)
        → row (grid_of c) (user_name c user) (mkdir p) ≡ Err refusal
    too_many_entries refusal x n few n_is is = to_room (Ok x) (Err refusal) few (is ∙ ap (within Entries) (sym (access_then n n_is)))

    other : grid_of after ≢ grid_of c
    other e =
        put-new path_cmp_total path_cmp-IsAntisymmetric (grid_of c).collections p (inherits (grid_of c) inside.above)
        (has-collections c (sound_of c made) p ∙ ap is_some (free-not_taken c made p none).no_collection) (ap (λ (g : Grid). g.collections) (sym grid_after ∙ e))

    pub planned : (x y : ⊤) (n : ℕ) → Ok x ≡ within Collections (length c.collections + 1) → n ≡ length deltas - 1 → Ok y ≡ within Entries (length c.entries + n) → Changes c (user_name c user) (mkdir p) deltas
    planned x y n few n_is some =
        plan_of c after (user_name c user) (mkdir p) deltas (ap (list_all is_mere) makes.deltas_are ∙ new_entries-mere c user parent kind.Collection r.id) makes.spelled applied
        (to_room (Ok x) (Ok y) few (some ∙ ap (within Entries) (sym (access_then n n_is))) ∙ ap (λ (g : Grid). Ok (changes g)) (sym grid_after)) (inr other)
