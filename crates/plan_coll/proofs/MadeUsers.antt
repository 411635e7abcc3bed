-- What a new user or group makes of the grid, and what the row of the operation comes to then.
use Rattle.std.proofs.Common.{◌≡◌, ◌≢◌, inr, ◌==◌, ℕ, ◌+◌, ◌<◌, ◌≤◌, Bool, true, false, List, [], ◌∷◌, length, Option, Some, None, Ok, Err, refl, sym, ap, ◌∙◌, arith}
use Rattle.std.specs.Prelude.{find, option_map, is_some, not, nat_le, ⊤, ◌&&◌, ◌||◌}
use Rattle.std.specs.List.{list_all, list_any}
use Rattle.std.proofs.lemmas.Bool.{and_from, leb-true}
use Rattle.grid_model.specs.Maps.{get, has, put}
use Rattle.grid_model.specs.MapLists.{size}
use Rattle.grid_model.specs.Names.{Text, is_name, same_text}
use Rattle.grid_model.specs.Grid.{Grid}
use Rattle.grid_model.specs.Refusing.{Or, ◌>>=◌, unless, refuse}
use Rattle.grid_model.specs.Bounds.{within}
use Rattle.grid_model.specs.Deeds.{Act, changes}
use Rattle.grid_model.specs.Levels.{is_admin}
use Rattle.grid_model.specs.Rows.{Cat, user_cmp, with_row}
use Rattle.grid_model.specs.RowGrids.{grid_of, user_name}
use Rattle.grid_model.specs.Applying.{IsMade, apply_all, where_fits, user_fits}
use Rattle.grid_model.specs.Operations.Users.{with_group}
use Rattle.grid_model.specs.Operations.Table.{mkgroup, row}
use Rattle.grid_model.specs.declared.deltas.Delta.{Delta}
use Rattle.grid_model.specs.declared.deltas.Delta.TheVariants as delta
use Rattle.grid_model.specs.declared.deltas.UserRow.{UserRow}
use Rattle.grid_model.specs.declared.grid.UserKind.TheVariants.{Rodsgroup}
use Rattle.grid_model.specs.declared.refusal.Refusal.{Refusal}
use Rattle.grid_model.specs.declared.refusal.Refusal.TheVariants.{NotAdmin, Exists, TooMany}
use Rattle.grid_model.specs.declared.refusal.What.TheVariants as what
use Rattle.grid_journal.specs.Journal.{can_be_kept}
use Rattle.grid_model.proofs.Comparing.{text_cmp_total, text_cmp-IsAntisymmetric}
use Rattle.grid_model.proofs.FoundRows.{is_some-find}
use Rattle.tables_laws.proofs.Users.{grid-with_user}
use Rattle.plan_base.specs.Plans.{Changes}
use Rattle.plan_base.proofs.AtPaths.{sound_of}
use Rattle.plan_base.proofs.MapSizes.{size-put}
use Rattle.plan_base.proofs.Mere.{is_mere, plan_of}
use Rattle.plan_base.proofs.NamedUsers.{id_named, has-users}
use Rattle.plan_base.proofs.OtherMaps.{put-new}
use Rattle.plan_base.proofs.Sizes.{size-users}
use Rattle.plan_coll.specs.NewUsers.{IsUserFor}

abbrev tests : Bool → Bool → Or ⊤ → Grid → Or Act
tests admin taken room g = unless admin NotAdmin >>= (λ _. refuse taken Exists >>= (λ _. room >>= (λ _. Ok (changes g))))

any-either : {X : Type 0} (p q : X → Bool) (xs : List X) → list_any p xs ≡ false → list_any q xs ≡ false → list_any (λ x. p x || q x) xs ≡ false
any-either p q [] e f = refl
any-either p q (x ∷ xs) e f = by (p x) (q x) e f (any-either p q xs)
  where
    by : (a b : Bool) → (a || list_any p xs) ≡ false → (b || list_any q xs) ≡ false → (list_any p xs ≡ false → list_any q xs ≡ false → list_any (λ y. p y || q y) xs ≡ false) → ((a || b) || list_any (λ y. p y || q y) xs) ≡ false
    by true b g h more = absurd cc
    by false true g h more = absurd cc
    by false false g h more = more g h

-- a row with a free id and a free name fits
module _ (c : Cat) (name : Text) (named : is_name name ≡ true) (free : has (grid_of c).users name ≡ false) (r : UserRow) (name_is : r.name ≡ name) (fresh : list_any (λ u. u.id == r.id) c.users ≡ false) where
  unnamed : list_any (λ u. same_text u.name r.name) c.users ≡ false
  unnamed =
      ap (λ (n : Text). list_any (λ (u : UserRow). same_text u.name n) c.users) name_is ∙ sym (is_some-find (λ (x : UserRow). same_text x.name name) c.users)
      ∙ sym (mapped (find (λ x. same_text x.name name) c.users)) ∙ sym (has-users c name) ∙ free
    where
      mapped : (o : Option UserRow) → is_some (option_map (λ (x : UserRow). x.id) o) ≡ is_some o
      mapped None = refl
      mapped (Some x) = refl

  pub fits_new : user_fits c r ≡ true
  fits_new =
      and_from (is_name r.name) (not (list_any (λ u. (u.id == r.id) || same_text u.name r.name) c.users)) (ap is_name name_is ∙ named)
      (ap not (any-either (λ (u : UserRow). u.id == r.id) (λ u. same_text u.name r.name) c.users fresh unnamed))

-- so many more are few
pub few_users : (n : ℕ) (x : ⊤) → Ok x ≡ within what.Users (n + 1) → n < 4294967295
few_users n x room = by (nat_le (n + 1) 10000) refl room
  where
    by : (b : Bool) → nat_le (n + 1) 10000 ≡ b → Ok x ≡ unless b (TooMany what.Users 10000) → n < 4294967295
    by true is e = let few : n + 1 ≤ 10000 = leb-true (n + 1) 10000 is in omega (arith, few)
    by false is e = absurd cc

module _ (c : Cat) (made : IsMade c) (u : ℕ) (name : Text) (named : is_name name ≡ true) where
  abbrev admin : Bool
  admin = is_admin (get (grid_of c).users (user_name c u))

  abbrev room_is : Or ⊤
  room_is = within what.Users (size (with_group (grid_of c) name).users)

  pub no_admin : admin ≡ false → row (grid_of c) (user_name c u) (mkgroup name) ≡ Err NotAdmin
  no_admin none i = tests (none i) (has (grid_of c).users name) room_is (with_group (grid_of c) name)

  module _ (is_one : is_admin (get (grid_of c).users (user_name c u)) ≡ true) where
    pub taken : (b : Bool) (found : Option ℕ) → found ≡ id_named c name → b ≡ is_some found → b ≡ true → row (grid_of c) (user_name c u) (mkgroup name) ≡ Err Exists
    taken b found is b_is so i = tests (is_one i) ((has-users c name ∙ ap is_some (sym is) ∙ sym b_is ∙ so) i) room_is (with_group (grid_of c) name)

    module _ (b : Bool) (found : Option ℕ) (is : found ≡ id_named c name) (b_is : b ≡ is_some found) (none : b ≡ false) where
      free : has (grid_of c).users name ≡ false
      free = has-users c name ∙ ap is_some (sym is) ∙ sym b_is ∙ none

      to_room : (room : Or ⊤) → room ≡ within what.Users (length c.users + 1) → row (grid_of c) (user_name c u) (mkgroup name) ≡ (room >>= (λ _. Ok (changes (with_group (grid_of c) name))))
      to_room room room_as =
          (λ i. tests (is_one i) (free i) room_is (with_group (grid_of c) name))
          ∙ ap (λ (r : Or ⊤). r >>= (λ _. Ok (changes (with_group (grid_of c) name))))
          (ap (within what.Users) (size-put text_cmp_total (grid_of c).users name Rodsgroup false (sym free) ∙ ap (λ n. n + 1) (size-users c (sound_of c made))) ∙ sym room_as)

      pub full : (refusal : Refusal) → Err refusal ≡ within what.Users (length c.users + 1) → row (grid_of c) (user_name c u) (mkgroup name) ≡ Err refusal
      full refusal room = to_room (Err refusal) room

      module _ (r : UserRow) (new : IsUserFor c name Rodsgroup r) where
        abbrev after : Cat
        after = record c { users = with_row user_cmp c.users r }

        fits : user_fits c r ≡ true
        fits = fits_new c name named free r new.name_is new.fresh

        grid_after : grid_of after ≡ with_group (grid_of c) name
        grid_after = grid-with_user c (sound_of c made) r fits ∙ (λ i. record (grid_of c) { users = put (grid_of c).users (new.name_is i) (new.kind_is i) })

        other : grid_of after ≢ grid_of c
        other e = put-new text_cmp_total text_cmp-IsAntisymmetric (grid_of c).users name Rodsgroup free (ap (λ (g : Grid). g.users) (sym grid_after ∙ e))

        pub planned : (x : ⊤) → Ok x ≡ within what.Users (length c.users + 1) → (deltas : List Delta) → deltas ≡ delta.User r ∷ [] → Changes c (user_name c u) (mkgroup name) deltas
        planned x room deltas are =
            plan_of c after (user_name c u) (mkgroup name) deltas (ap (list_all is_mere) are) (ap (list_all can_be_kept) are ∙ ap (λ t. t && true) new.spelled)
            (ap (apply_all c) are ∙ ap (λ t. elim (where_fits t 2 after) [ Ok next ↦ apply_all next [] | Err cause ↦ Err cause ]) fits)
            (to_room (Ok x) room ∙ ap (λ (g : Grid). Ok (changes g)) (sym grid_after)) (inr other)
