-- What a new user with a home makes of the grid, and what the row of the operation comes to then.
use Rattle.std.proofs.Common.{◌≡◌, ◌≢◌, inr, ℕ, ◌+◌, ◌<◌, Bool, true, false, List, [], ◌∷◌, ◌++◌, length, Option, Some, None, Ok, Err, refl, sym, ap, ◌∙◌, eq-eqb, subst}
use Rattle.std.specs.Prelude.{◌==◌, ⊤, ◌||◌, find, option_map, unwrap_or, is_some, Result, MatchResult, MatchOption}
use Rattle.std.specs.List.{list_all}
use Rattle.std.proofs.lemmas.Bool.{and_from}
use Rattle.grid_model.specs.Maps.{get, has, put}
use Rattle.grid_model.specs.MapLists.{size}
use Rattle.grid_model.specs.Names.{Text, Path, is_name}
use Rattle.grid_model.specs.Grid.{Grid, home, homes, home_of}
use Rattle.grid_model.specs.Refusing.{Or, ◌>>=◌, unless, refuse}
use Rattle.grid_model.specs.Bounds.{within}
use Rattle.grid_model.specs.Deeds.{Act, changes}
use Rattle.grid_model.specs.Levels.{is_admin}
use Rattle.grid_model.specs.NewRows.{IsNewAt, with_collection_row}
use Rattle.grid_model.specs.Rows.{Cat, empty_cat, user_cmp, collection_cmp, entry_cmp, with_row, has_collection, has_user}
use Rattle.grid_model.specs.RowPaths.{collection_path, collection_at, is_path_of}
use Rattle.grid_model.specs.RowGrids.{grid_of, collection_place, user_name}
use Rattle.grid_model.specs.Applying.{IsMade, apply, apply_all, where_fits, entry_fits}
use Rattle.grid_model.specs.Operations.Common.{is_taken, collection_above}
use Rattle.grid_model.specs.Operations.Users.{with_user}
use Rattle.grid_model.specs.Operations.Table.{mkuser, row}
use Rattle.grid_model.specs.declared.deltas.Delta.{Delta}
use Rattle.grid_model.specs.declared.deltas.Delta.TheVariants as delta
use Rattle.grid_model.specs.declared.deltas.CollectionRow.{CollectionRow}
use Rattle.grid_model.specs.declared.deltas.EntryRow.{EntryRow}
use Rattle.grid_model.specs.declared.deltas.UserRow.{UserRow}
use Rattle.grid_model.specs.declared.grid.Level.TheVariants.{Own}
use Rattle.grid_model.specs.declared.grid.UserKind.{UserKind}
use Rattle.grid_model.specs.declared.plans.PlanError.{PlanError}
use Rattle.grid_model.specs.declared.plans.PlanError.TheVariants.{Refused, Memory}
use Rattle.grid_model.specs.declared.refusal.Refusal.{Refusal}
use Rattle.grid_model.specs.declared.refusal.Refusal.TheVariants.{NotAdmin, Exists, NoCollection}
use Rattle.grid_model.specs.declared.refusal.What.TheVariants.{Users, Collections, Access as Entries}
use Rattle.grid_journal.proofs.DeltaLemmas.{apply_all_after}
use Rattle.grid_model.proofs.Comparing.{text_cmp_total, text_cmp-IsAntisymmetric, path_cmp_total}
use Rattle.grid_model.proofs.FreePlaces.{collection_fits-new}
use Rattle.grid_model.proofs.NewCollections.{at_of, path-kept}
use Rattle.tables_laws.proofs.GridOrders.{access_cmp_total}
use Rattle.tables_laws.proofs.Rows.{any_from_in, new_in_with_row}
use Rattle.tables_laws.proofs.Numbered.{put_found}
use Rattle.tables_laws.proofs.Grids.{paths_same}
use Rattle.tables_laws.proofs.LookUps.{has-collections}
use Rattle.tables_laws.proofs.NewCollections.{grid-new_collection}
use Rattle.tables_laws.proofs.Places.{place_is, child_place}
use Rattle.tables_laws.proofs.Users.{grid-with_user}
use Rattle.tables_laws.proofs.Entries.{key_of, grid-with_entry}
use Rattle.tables_laws.proofs.Sound.{IsSound, sound-apply}
use Rattle.plan_base.specs.Found.{LiesIn, FindsAbove}
use Rattle.plan_base.specs.Plans.{Changes, PlansChange}
use Rattle.plan_base.proofs.AtPaths.{sound_of, free-not_taken, paths_of}
use Rattle.plan_base.proofs.MapSizes.{size-put}
use Rattle.plan_base.proofs.Mere.{is_mere, plan_of}
use Rattle.plan_base.proofs.NamedUsers.{id_named, has-users}
use Rattle.plan_base.proofs.NewAccess.{empty_access}
use Rattle.plan_base.proofs.OtherMaps.{put-new}
use Rattle.plan_base.proofs.Sizes.{size-users, size-collections, size-access}
use Rattle.plan_coll.specs.NewUsers.{MakesUser, IsFreeHome, IsNoHome, own_entry, home_asked, room_for_user}
use Rattle.plan_coll.proofs.MadeUsers.{few_users, fits_new}
use Rattle.plan_coll.proofs.NamedPaths.{no_collection_below, no_object_below}

-- ---- the home of a name

either : (a b : Bool) → (a || b) ≡ false → (a ≡ false) × (b ≡ false)
either true b e = absurd cc
either false b e = (refl, e)

true_or : (a : Bool) → (a || true) ≡ true
true_or true = refl
true_or false = refl

abbrev asked : Bool → Bool → Bool → Or ⊤
asked named taken there = refuse (named || taken) Exists >>= (λ _. unless there NoCollection)

-- what is known of no path, and of one
pub where_none : (A : Type 0) (P : Path → Type 0) (o : Option Path) → o ≡ None → MatchOption o A P → A
where_none A P o is told = let M : Option Path → Type 0 = λ x. MatchOption x A P in subst M is told

pub where_some : (A : Type 0) (P : Path → Type 0) (o : Option Path) (p : Path) → o ≡ Some p → MatchOption o A P → P p
where_some A P o p is told = let M : Option Path → Type 0 = λ x. MatchOption x A P in subst M is told

module _ (c : Cat) (made : IsMade c) (name : Text) where
  abbrev zone : Text
  zone = (grid_of c).zone

  abbrev p : Path
  p = home_of zone name

  pub named_so : (b : Bool) (found : Option ℕ) → found ≡ id_named c name → b ≡ is_some found → has (grid_of c).users name ≡ b
  named_so b found is b_is = has-users c name ∙ ap is_some (sym is) ∙ sym b_is

  pub name_taken : has (grid_of c).users name ≡ true → home_asked (grid_of c) name ≡ Err Exists
  name_taken is = ap (λ b. asked b (is_taken (grid_of c) p) (has (grid_of c).collections (homes zone))) is

  pub no_zone : has (grid_of c).users name ≡ false → is_name (unwrap_or c.zone []) ≡ false → home_asked (grid_of c) name ≡ Err NoCollection
  no_zone free bad =
      let s = sound_of c made in
      let no_home : has (grid_of c).collections p ≡ false = no_collection_below c s zone (home ∷ name ∷ []) bad in
      let no_object : has (grid_of c).objects p ≡ false = no_object_below c s zone (home ∷ []) bad p refl in
      λ i. asked (free i) (no_home i || no_object i) (no_collection_below c s zone (home ∷ []) bad i)

  module _ (path : Path) (path_is : path ≡ home_of (unwrap_or c.zone []) name) where
    pub path_taken : (b : Bool) → b ≡ is_taken (grid_of c) path → b ≡ true → home_asked (grid_of c) name ≡ Err Exists
    path_taken b is so =
        ap (λ t. asked (has (grid_of c).users name) t (has (grid_of c).collections (homes zone))) (sym (sym so ∙ is ∙ ap (is_taken (grid_of c)) path_is))
        ∙ ap (λ t. refuse t Exists >>= (λ _. unless (has (grid_of c).collections (homes zone)) NoCollection)) (true_or (has (grid_of c).users name))

    module _ (free : has (grid_of c).users name ≡ false) (b : Bool) (is : b ≡ is_taken (grid_of c) path) (none : b ≡ false) where
      not_taken : is_taken (grid_of c) p ≡ false
      not_taken = sym (ap (is_taken (grid_of c)) path_is) ∙ sym is ∙ none

      pub above_found : (id : ℕ) → FindsAbove c path (Ok id) → IsFreeHome c name id
      above_found id inside = record { unnamed = free; free = not_taken; inside = subst (λ q. LiesIn c q id) path_is inside }

      pub above_refused : (e : PlanError) → FindsAbove c path (Err e) → IsNoHome c name e
      above_refused Memory finds = tt
      above_refused (Refused r) finds =
          (λ i. asked (free i) (not_taken i) (has (grid_of c).collections (homes zone)))
          ∙ by (has (grid_of c).collections (homes zone)) (ap (λ q. collection_above (grid_of c) q) (sym path_is) ∙ finds)
        where
          by : (t : Bool) → (unless t NoCollection >>= (λ _. Ok (homes zone))) ≡ Err r → unless t NoCollection ≡ Err r
          by true e = absurd cc
          by false e = let same : NoCollection ≡ r = cc in ap Err same

      -- whatever is found above the path
      pub above_is_so : (found : Result ℕ PlanError) → FindsAbove c path found → MatchResult found (IsFreeHome c name) (IsNoHome c name)
      above_is_so (Ok id) finds = above_found id finds
      above_is_so (Err e) finds = above_refused e finds

-- ---- the row of the operation, test by test

abbrev tests : Bool → Bool → Bool → Or ⊤ → Or ⊤ → Or ⊤ → Grid → Or Act
tests admin taken there few some given g =
    unless admin NotAdmin >>= (λ _. refuse taken Exists >>= (λ _. unless there NoCollection >>= (λ _. few >>= (λ _. some >>= (λ _. given >>= (λ _. Ok (changes g)))))))

joined : (a b d : Or ⊤) (k : Or Act) → (a >>= (λ _. b >>= (λ _. d >>= (λ _. k)))) ≡ ((a >>= (λ _. b >>= (λ _. d))) >>= (λ _. k))
joined (Ok x) (Ok y) d k = refl
joined (Ok x) (Err r) d k = refl
joined (Err r) b d k = refl

first_of : (a b d : Or ⊤) (x : ⊤) → Ok x ≡ (a >>= (λ _. b >>= (λ _. d))) → (y : ⊤) × (Ok y ≡ a)
first_of (Ok y) b d x e = (y, refl)
first_of (Err r) b d x e = absurd cc

-- so many users more are few
pub few_then : (c : Cat) (x : ⊤) → Ok x ≡ room_for_user c → length c.users < 4294967295
few_then c x room =
    let first = first_of (within Users (length c.users + 1)) (within Collections (length c.collections + 1)) (within Entries (length c.entries + 1)) x room in
    few_users (length c.users) first.0 first.1

module _ (c : Cat) (made : IsMade c) (u : ℕ) (name : Text) (k : UserKind) (named : is_name name ≡ true) where
  abbrev g : Grid
  g = grid_of c

  abbrev grid_then : Grid
  grid_then = with_user (grid_of c) name k

  abbrev tests_in : Bool → Bool → Bool → Or Act
  tests_in admin taken there = tests admin taken there (within Users (size grid_then.users)) (within Collections (size grid_then.collections)) (within Entries (size grid_then.access)) grid_then

  pub no_admin : is_admin (get (grid_of c).users (user_name c u)) ≡ false → row (grid_of c) (user_name c u) (mkuser name k) ≡ Err NotAdmin
  no_admin none i = tests_in (none i) (has g.users name || is_taken g (home_of g.zone name)) (has g.collections (homes g.zone))

  module _ (is_one : is_admin (get (grid_of c).users (user_name c u)) ≡ true) where
    pub no_home : (e : PlanError) → IsNoHome c name e → PlansChange c (user_name c u) (mkuser name k) (Err e)
    no_home Memory none = tt
    no_home (Refused r) none =
        (λ i. tests_in (is_one i) (has g.users name || is_taken g (home_of g.zone name)) (has g.collections (homes g.zone)))
        ∙ by (has g.users name || is_taken g (home_of g.zone name)) (has g.collections (homes g.zone)) (within Users (size grid_then.users) >>= (λ _. within Collections (size grid_then.collections) >>= (λ _. within Entries (size grid_then.access) >>= (λ _. Ok (changes grid_then))))) none
      where
        by : (a b : Bool) (more : Or Act) → (refuse a Exists >>= (λ _. unless b NoCollection)) ≡ Err r → (refuse a Exists >>= (λ _. unless b NoCollection >>= (λ _. more))) ≡ Err r
        by true b more e = let same : Exists ≡ r = cc in ap Err same
        by false true more e = absurd cc
        by false false more e = let same : NoCollection ≡ r = cc in ap Err same

    module _ (id : ℕ) (at : IsFreeHome c name id) where
      abbrev path : Path
      path = home_of (grid_of c).zone name

      abbrev all_homes : Path
      all_homes = homes (grid_of c).zone

      above_is : at.inside.above ≡ all_homes
      above_is = let both : Some all_homes ≡ Some at.inside.above = at.inside.parent_is in cc

      homes_at : collection_at c all_homes ≡ Some id
      homes_at = ap (collection_at c) (sym above_is) ∙ at.inside.at

      no_path : has g.collections path ≡ false
      no_path = (either (has g.collections path) (has g.objects path) at.free).0

      no_access : has g.access (path, name) ≡ false
      no_access = ap is_some (empty_access c (sound_of c made) path (free-not_taken c made path at.free) name)

      to_room : (room : Or ⊤) → room ≡ room_for_user c → row (grid_of c) (user_name c u) (mkuser name k) ≡ (room >>= (λ _. Ok (changes grid_then)))
      to_room room is =
          (λ i. tests (is_one i) (at.unnamed i || at.free i) (there i) (within Users (users_then i)) (within Collections (collections_then i)) (within Entries (access_then i)) grid_then)
          ∙ joined (within Users (length c.users + 1)) (within Collections (length c.collections + 1)) (within Entries (length c.entries + 1)) (Ok (changes grid_then))
          ∙ ap (λ (r : Or ⊤). r >>= (λ _. Ok (changes grid_then))) (sym is)
        where
          there : has g.collections all_homes ≡ true
          there = has-collections c (sound_of c made) all_homes ∙ ap is_some homes_at

          users_then : size grid_then.users ≡ length c.users + 1
          users_then = size-put text_cmp_total g.users name k false (sym at.unnamed) ∙ ap (λ n. n + 1) (size-users c (sound_of c made))

          collections_then : size grid_then.collections ≡ length c.collections + 1
          collections_then = size-put path_cmp_total g.collections path false false (sym no_path) ∙ ap (λ n. n + 1) (size-collections c (sound_of c made))

          access_then : size grid_then.access ≡ length c.entries + 1
          access_then = size-put access_cmp_total g.access (path, name) Own false (sym no_access) ∙ ap (λ n. n + 1) (size-access c (sound_of c made))

      pub full : (refusal : Refusal) → Err refusal ≡ room_for_user c → row (grid_of c) (user_name c u) (mkuser name k) ≡ Err refusal
      full refusal room = to_room (Err refusal) room

      module _ (deltas : List Delta) (m : MakesUser c name k id deltas) where
        abbrev r : UserRow
        r = m.row

        abbrev q : CollectionRow
        q = m.home

        q_name : q.name ≡ name
        q_name = ap (λ (x : CollectionRow). x.name) m.is_home.row_is

        q_parent : q.parent ≡ id
        q_parent = ap (λ (x : CollectionRow). x.parent) m.is_home.row_is

        q_plain : q.inherit ≡ false
        q_plain = ap (λ (x : CollectionRow). x.inherit) m.is_home.row_is

        -- the user
        abbrev one : Cat
        one = record c { users = with_row user_cmp c.users r }

        applied_user : apply c (delta.User r) ≡ Ok one
        applied_user = ap (λ b. where_fits b 2 one) (fits_new c name named at.unnamed r m.is_row.name_is m.is_row.fresh)

        one_made : IsMade one
        one_made = (
          made.0 ++ delta.User r ∷ [],
          apply_all_after made.0 (delta.User r ∷ []) empty_cat c made.1 ∙ ap (λ x. elim x [ Ok next ↦ apply_all next [] | Err cause ↦ Err cause ]) applied_user,
        )

        one_sound : IsSound one
        one_sound = sound-apply c one (delta.User r) (sound_of c made) applied_user

        grid_one : grid_of one ≡ record (grid_of c) { users = put (grid_of c).users name k }
        grid_one =
            grid-with_user c (sound_of c made) r (fits_new c name named at.unnamed r m.is_row.name_is m.is_row.fresh)
            ∙ (λ i. record (grid_of c) { users = put (grid_of c).users (m.is_row.name_is i) (m.is_row.kind_is i) })

        -- the home
        abbrev two : Cat
        two = with_collection_row one q

        homes_one : collection_at one all_homes ≡ Some id
        homes_one = ap (λ (paths : ℕ → Option Path). option_map (λ (x : CollectionRow). x.id) (find (λ x. is_path_of (paths x.id) all_homes) c.collections)) (paths_same c one refl) ∙ homes_at

        new : IsNewAt one q path
        new =
            let none = free-not_taken one one_made path (ap (λ (h : Grid). is_taken h path) grid_one ∙ at.free) in
            record {
              some_id = m.is_home.some_id;
              fresh = m.is_home.fresh;
              free = record {
                above = all_homes;
                parent = homes_one ∙ ap Some (sym q_parent);
                path_is = ap (λ (n : Text). (grid_of c).zone ∷ home ∷ n ∷ []) (sym q_name);
                named = ap is_name q_name ∙ named;
                no_collection = none.no_collection;
                no_object = none.no_object;
              };
              plain = q_plain;
            }

        applied_home : apply one (delta.Collection q) ≡ Ok two
        applied_home = ap (λ b. where_fits b 5 two) (collection_fits-new one (paths_of one one_made) one_sound.cat q path new)

        two_sound : IsSound two
        two_sound = sound-apply one two (delta.Collection q) one_sound applied_home

        parent_path : collection_path one q.parent ≡ Some all_homes
        parent_path = ap (collection_path one) q_parent ∙ (at_of one id all_homes homes_one).path

        named_home : all_homes ++ q.name ∷ [] ≡ path
        named_home = ap (λ (n : Text). all_homes ++ n ∷ []) q_name

        grid_two : grid_of two ≡ record (grid_of c) { users = put (grid_of c).users name k; collections = put (grid_of c).collections path false }
        grid_two =
            grid-new_collection one_made.0 one two q one_made.1 m.is_home.some_id m.is_home.fresh applied_home
            ∙ (λ i. record (grid_one i) { collections = put ((grid_one i).collections) ((ap (λ (x : Path). x ++ q.name ∷ []) (place_is one q.parent all_homes parent_path) ∙ named_home) i) (q_plain i) })

        new_place : collection_place (collection_path two) q.id ≡ path
        new_place =
            child_place two two_sound q.id q m.is_home.some_id (put_found (λ (x : CollectionRow). x.id) c.collections q)
            ∙ ap (λ (x : Path). x ++ q.name ∷ []) (place_is two q.parent all_homes (kept ∙ parent_path)) ∙ named_home
          where
            kept : collection_path two q.parent ≡ collection_path one q.parent
            kept = path-kept one q m.is_home.fresh q.parent ((paths_of one one_made).collections q.parent (ap (has_collection one) q_parent ∙ (at_of one id all_homes homes_one).there))

        -- the user's own access
        abbrev e : EntryRow
        e = own_entry q.id r.id

        abbrev three : Cat
        three = record two { entries = with_row entry_cmp two.entries e }

        entry_fits_two : entry_fits two e ≡ true
        entry_fits_two =
            and_from (has_collection two q.id) (has_user two r.id)
            (any_from_in (λ x. x.id == q.id) two.collections q (new_in_with_row collection_cmp c.collections q) (eq-eqb q.id q.id refl))
            (any_from_in (λ x. x.id == r.id) two.users r (new_in_with_row user_cmp c.users r) (eq-eqb r.id r.id refl))

        applied_entry : apply two (delta.Entry e) ≡ Ok three
        applied_entry = ap (λ b. where_fits b 13 three) entry_fits_two

        named_two : user_name two r.id ≡ name
        named_two = ap (λ (o : Option UserRow). unwrap_or (option_map (λ x. x.name) o) []) (put_found (λ (x : UserRow). x.id) c.users r) ∙ m.is_row.name_is

        key_is : key_of two e ≡ (path, name)
        key_is i = (new_place i, named_two i)

        grid_three : grid_of three ≡ grid_then
        grid_three = grid-with_entry two two_sound e entry_fits_two ∙ (λ i. record (grid_two i) { access = put ((grid_two i).access) (key_is i) Own })

        applied : apply_all c deltas ≡ Ok three
        applied =
            ap (apply_all c) m.deltas_are
            ∙ ap (λ x. elim x [ Ok next ↦ apply_all next (delta.Collection q ∷ delta.Entry e ∷ []) | Err cause ↦ Err cause ]) applied_user
            ∙ ap (λ x. elim x [ Ok next ↦ apply_all next (delta.Entry e ∷ []) | Err cause ↦ Err cause ]) applied_home
            ∙ ap (λ x. elim x [ Ok next ↦ apply_all next [] | Err cause ↦ Err cause ]) applied_entry

        other : grid_of three ≢ grid_of c
        other is = put-new text_cmp_total text_cmp-IsAntisymmetric (grid_of c).users name k at.unnamed (ap (λ (h : Grid). h.users) (sym grid_three ∙ is))

        pub planned : (x : ⊤) → Ok x ≡ room_for_user c → Changes c (user_name c u) (mkuser name k) deltas
        planned x room =
            plan_of c three (user_name c u) (mkuser name k) deltas (ap (list_all is_mere) m.deltas_are) m.spelled applied
            (to_room (Ok x) room ∙ ap (λ (h : Grid). Ok (changes h)) (sym grid_three)) (inr other)
