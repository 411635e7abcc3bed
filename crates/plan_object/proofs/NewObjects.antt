-- A new object at a path, and the access that it gets.
use Rattle.std.proofs.Common.{◌≡◌, ◌==◌, ℕ, ◌+◌, true, false, List, [], ◌∷◌, ◌++◌, length, Option, Some, None, Ok, IsTrue, refl, sym, ap, ◌∙◌, eq-eqb}
use Rattle.std.specs.Prelude.{option_map, unwrap_or}
use Rattle.grid_model.specs.Maps.{empty, put}
use Rattle.grid_model.specs.MapLists.{size}
use Rattle.grid_model.specs.Names.{Text, Path, is_name, is_path, parent}
use Rattle.grid_model.specs.Grid.{Grid}
use Rattle.grid_model.specs.NewRows.{IsNewObjectAt}
use Rattle.grid_model.specs.Rows.{Cat, object, object_cmp, has_object, with_row}
use Rattle.grid_model.specs.RowPaths.{collection_path}
use Rattle.grid_model.specs.RowGrids.{grid_of, collection_place, object_place, user_name}
use Rattle.grid_model.specs.Applying.{IsMade, apply, where_fits, is_user}
use Rattle.grid_model.specs.Operations.Common.{is_taken, with_new_item}
use Rattle.grid_model.specs.declared.deltas.Delta.TheVariants as delta
use Rattle.grid_model.specs.declared.deltas.Numbers.{Numbers}
use Rattle.grid_model.specs.declared.deltas.ObjectRow.{ObjectRow}
use Rattle.grid_model.specs.declared.deltas.OrphanRow.{OrphanRow}
use Rattle.grid_model.specs.declared.grid.ItemKind.TheVariants as kind
use Rattle.grid_model.proofs.FreePlaces.{object_fits-new}
use Rattle.grid_model.proofs.NewCollections.{at_of}
use Rattle.tables_laws.proofs.Rows.{any_from_in, new_in_with_row}
use Rattle.tables_laws.proofs.Numbered.{put_found}
use Rattle.tables_laws.proofs.Grids.{paths_same}
use Rattle.tables_laws.proofs.NewObjects.{grid-new_object}
use Rattle.tables_laws.proofs.Places.{place_is}
use Rattle.tables_laws.proofs.Sound.{IsSound, sound-apply, sound-apply_all}
use Rattle.plan_base.specs.Found.{LiesIn}
use Rattle.plan_base.specs.NewItems.{new_entries}
use Rattle.plan_base.proofs.AtPaths.{sound_of, free-not_taken, paths_of, user_known}
use Rattle.plan_base.proofs.NameTexts.{last_named}
use Rattle.plan_base.proofs.NewAccess.{HasNew, GivesNew, gives_new}
use Rattle.plan_base.proofs.PutEntries.{with_entries}
use Rattle.plan_base.proofs.Sizes.{size-access}

-- ---- paths

-- a path has its last name behind the one above
pub parent_split : (p above : Path) → parent p ≡ Some above → (name : Text) × (p ≡ above ++ name ∷ [])
parent_split [] above e = absurd cc
parent_split (name ∷ []) above e = (name, let same : [] ≡ above = cc in ap (λ (q : Path). q ++ name ∷ []) same)
parent_split (name ∷ next ∷ names) above e = by (parent (next ∷ names)) refl e (λ q is. parent_split (next ∷ names) q is)
  where
    by : (o : Option Path) → parent (next ∷ names) ≡ o → option_map (λ q. name ∷ q) o ≡ Some above → ((q : Path) → parent (next ∷ names) ≡ Some q → (n : Text) × (next ∷ names ≡ q ++ n ∷ [])) → (n : Text) × (name ∷ next ∷ names ≡ above ++ n ∷ [])
    by None is none more = absurd cc
    by (Some q) is some more =
        let its = more q is in
        let same : name ∷ q ≡ above = cc in
        (its.0, ap (λ (r : Path). name ∷ r) its.1 ∙ ap (λ (r : Path). r ++ its.0 ∷ []) same)

-- ---- the row

module _ (c : Cat) (made : IsMade c) (p : Path) (cid : ℕ) (inside : LiesIn c p cid) (none : is_taken (grid_of c) p ≡ false) (o : ObjectRow) (fresh : has_object c o.id ≡ false) (its_collection : o.collection ≡ cid) (path_is : p ≡ inside.above ++ o.name ∷ []) (named : IsTrue (is_name o.name)) where
  pub new_at : IsNewObjectAt c o p
  new_at = record {
    fresh = fresh;
    free = record {
      above = inside.above;
      parent = inside.at ∙ ap Some (sym its_collection);
      path_is = path_is;
      named = named;
      no_collection = (free-not_taken c made p none).no_collection;
      no_object = (free-not_taken c made p none).no_object;
    };
  }

  -- where files may be orphans and numbers drawn meanwhile
  module _ (orphans : List OrphanRow) (numbers : Numbers) (begun_made : IsMade (record c { orphans = orphans; numbers = numbers })) (begun_grid : grid_of (record c { orphans = orphans; numbers = numbers }) ≡ grid_of c) where
    abbrev pub begun : Cat
    begun = record c { orphans = orphans; numbers = numbers }

    abbrev pub one : Cat
    one = record begun { objects = with_row object_cmp c.objects o }

    pub applied_one : apply begun (delta.Object o) ≡ Ok one
    applied_one = ap (λ b. where_fits b 7 one) (object_fits-new c (paths_of c made) (sound_of c made).cat o p new_at)

    pub one_sound : IsSound one
    one_sound = sound-apply begun one (delta.Object o) (sound_of begun begun_made) applied_one

    place_of : (paths : ℕ → Option Path) → paths ≡ collection_path c → collection_place paths o.collection ++ o.name ∷ [] ≡ p
    place_of paths same =
        ap (λ (ps : ℕ → Option Path). collection_place ps o.collection ++ o.name ∷ []) same
        ∙ ap (λ (q : Path). q ++ o.name ∷ []) (place_is c o.collection inside.above (ap (collection_path c) its_collection ∙ (at_of c cid inside.above inside.at).path)) ∙ sym path_is

    pub grid_one : grid_of one ≡ record (grid_of c) { objects = put (grid_of c).objects p (record { size = o.size; digest = o.digest; time = o.time; replicas = empty }) }
    grid_one =
        grid-new_object begun_made.0 begun one o begun_made.1 fresh applied_one
        ∙ ap (λ (g : Grid). record g { objects = put g.objects (collection_place (collection_path begun) o.collection ++ o.name ∷ []) (record { size = o.size; digest = o.digest; time = o.time; replicas = empty }) }) begun_grid
        ∙ ap (λ (q : Path). record (grid_of c) { objects = put (grid_of c).objects q (record { size = o.size; digest = o.digest; time = o.time; replicas = empty }) }) (place_of (collection_path begun) (paths_same c begun refl))

    pub object_found : object one o.id ≡ Some o
    object_found = put_found (λ (x : ObjectRow). x.id) c.objects o

    pub one_place : object_place (collection_path one) o ≡ p
    one_place = place_of (collection_path one) (paths_same c one refl)

    has_new : HasNew c one kind.Object o.id p
    has_new = record {
      sound = one_sound;
      gives = refl;
      there = any_from_in (λ x. x.id == o.id) one.objects o (new_in_with_row object_cmp c.objects o) (eq-eqb o.id o.id refl);
      place = ap (λ (f : Option ObjectRow). unwrap_or (option_map (object_place (collection_path one)) f) []) object_found ∙ one_place;
      users = refl;
      entries = refl;
      access = ap (λ (g : Grid). g.access) grid_one;
      fresh = fresh;
    }

    pub given : (user : ℕ) → is_user c user ≡ true → GivesNew c one (with_new_item (grid_of c) (user_name c user) inside.above p) (new_entries c user cid kind.Object o.id)
    given user its_user = gives_new c made user cid (user_known c user its_user) inside.above p inside.at none one kind.Object o.id has_new

-- how many entries there are then
pub access_size : (c : Cat) (made : IsMade c) (user cid : ℕ) (p : Path) → is_user c user ≡ true → (inside : LiesIn c p cid) → is_taken (grid_of c) p ≡ false → IsTrue (is_path p) → (id : ℕ) → has_object c id ≡ false
    → size (with_new_item (grid_of c) (user_name c user) inside.above p) ≡ length c.entries + length (new_entries c user cid kind.Object id)
access_size c made user cid p its_user inside none all id fresh =
    let last = parent_split p inside.above inside.parent_is in
    let o : ObjectRow = record { id = id; collection = cid; name = last.0; size = 0; digest = []; time = 0 } in
    let named : IsTrue (is_name last.0) = last_named p last.0 inside.above last.1 all in
    let its = given c made p cid inside none o fresh refl last.1 named c.orphans c.numbers made refl user its_user in
    let after : Cat = with_entries (one c made p cid inside none o fresh refl last.1 named c.orphans c.numbers made refl) its.rows in
    let after_sound : IsSound after = sound-apply_all (new_entries c user cid kind.Object id) (one c made p cid inside none o fresh refl last.1 named c.orphans c.numbers made refl) after
    (one_sound c made p cid inside none o fresh refl last.1 named c.orphans c.numbers made refl) its.applied in
    ap (λ (g : Grid). size g.access) (sym its.grid) ∙ size-access after after_sound ∙ its.count
