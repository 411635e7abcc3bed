-- What a user who joins or leaves a group makes of the grid, and what the rows of the operations come to then.
use Rattle.std.proofs.Common.{◌≡◌, ◌≢◌, inr, ◌==◌, ℕ, ◌+◌, Bool, true, false, List, [], ◌∷◌, length, Option, Some, None, Ok, Err, IsTrue, refl, sym, ap, ◌∙◌}
use Rattle.std.specs.Prelude.{filter, option_map, not, ⊤, ◌&&◌, ◌||◌}
use Rattle.std.specs.List.{list_all, list_any}
use Rattle.std.proofs.lemmas.Bool.{and_from}
use Rattle.grid_model.specs.Maps.{get, has, add, remove}
use Rattle.grid_model.specs.MapLists.{size}
use Rattle.grid_model.specs.Names.{Text, same_text}
use Rattle.grid_model.specs.Grid.{Grid, everybody}
use Rattle.grid_model.specs.Refusing.{Or, ◌>>=◌, unless, refuse}
use Rattle.grid_model.specs.Bounds.{within}
use Rattle.grid_model.specs.Deeds.{Act, changes}
use Rattle.grid_model.specs.Levels.{is_admin}
use Rattle.grid_model.specs.Rows.{Cat, user, with_row, is_member}
use Rattle.grid_model.specs.Rows as tables
use Rattle.grid_model.specs.RowGrids.{grid_of, user_name}
use Rattle.grid_model.specs.Applying.{IsMade, apply, apply_all, where_fits, is_group_kind, can_join}
use Rattle.grid_model.specs.Applying as rows
use Rattle.grid_model.specs.Operations.Common.{is_group, is_person}
use Rattle.grid_model.specs.Operations.Users as users
use Rattle.grid_model.specs.Operations.Table.{addmember, rmmember, row}
use Rattle.grid_model.specs.declared.deltas.Delta.{Delta}
use Rattle.grid_model.specs.declared.deltas.Delta.TheVariants as delta
use Rattle.grid_model.specs.declared.deltas.MemberRow.{MemberRow}
use Rattle.grid_model.specs.declared.deltas.UserRow.{UserRow}
use Rattle.grid_model.specs.declared.grid.UserKind.{UserKind}
use Rattle.grid_model.specs.declared.refusal.Refusal.{Refusal}
use Rattle.grid_model.specs.declared.refusal.Refusal.TheVariants.{NotAdmin, NoUser, NoMember, Exists, Fixed}
use Rattle.grid_model.specs.declared.refusal.What.TheVariants as what
use Rattle.grid_journal.specs.Journal.{can_be_kept}
use Rattle.grid_access.proofs.GivenLevels.{has-member}
use Rattle.tables_laws.proofs.GridOrders.{member_cmp_total, member_cmp-IsAntisymmetric}
use Rattle.tables_laws.proofs.Members.{grid-with_member, grid-without_member}
use Rattle.tables_laws.proofs.Rows.{in_from_find, any_from_in}
use Rattle.tables_laws.proofs.Ties.{members_there}
use Rattle.plan_base.specs.Plans.{Changes}
use Rattle.plan_base.proofs.AtPaths.{sound_of}
use Rattle.plan_base.proofs.FixedPaths.{kind_none}
use Rattle.plan_base.proofs.MapSizes.{size-put}
use Rattle.plan_base.proofs.Mere.{is_mere, plan_of}
use Rattle.plan_base.proofs.NamedUsers.{id_named, is_named}
use Rattle.plan_base.proofs.OtherMaps.{put-new, remove-there}
use Rattle.plan_base.proofs.Sizes.{size-members}
use Rattle.plan_coll.specs.Joining.{Joins}

-- ---- the group and the user

both_or : (a b : Bool) → a ≡ false → (a && b) ≡ false
both_or true b e = absurd cc
both_or false b e = refl

second_or : (a b : Bool) → b ≡ false → (a && b) ≡ false
second_or true b e = e
second_or false b e = refl

module _ (c : Cat) (made : IsMade c) (group member : Text) where
  pub no_group : is_group (get (grid_of c).users group) ≡ false → users.can_be_member (grid_of c) group member ≡ false
  no_group none = both_or (is_group (get (grid_of c).users group)) (is_person (get (grid_of c).users member)) none

  pub no_person : is_person (get (grid_of c).users member) ≡ false → users.can_be_member (grid_of c) group member ≡ false
  no_person none = second_or (is_group (get (grid_of c).users group)) (is_person (get (grid_of c).users member)) none

  pub no_group_id : None ≡ id_named c group → users.can_be_member (grid_of c) group member ≡ false
  no_group_id none = no_group (ap is_group (sym (kind_none c made group none)))

  pub no_member_id : None ≡ id_named c member → users.can_be_member (grid_of c) group member ≡ false
  no_member_id none = no_person (ap is_person (sym (kind_none c made member none)))

  row_passes : (p : Option UserKind → Bool) (q : UserKind → Bool) → ((k : UserKind) → p (Some k) ≡ q k) → p None ≡ false → (id : ℕ) (o : Option UserRow) → user c id ≡ o → p (option_map (λ r. r.kind) o) ≡ true
      → list_any (λ u. (u.id == id) && q u.kind) c.users ≡ true
  row_passes p q tells nobody id None is e = absurd cc
  row_passes p q tells nobody id (Some x) is e =
      let found = in_from_find (λ (r : UserRow). r.id == id) c.users x is in
      any_from_in (λ (u : UserRow). (u.id == id) && q u.kind) c.users x found.0 (and_from (x.id == id) (q x.kind) found.1 (sym (tells x.kind) ∙ e))

  pub joins : (group_id member_id : ℕ) → is_group (get (grid_of c).users group) ≡ true → is_person (get (grid_of c).users member) ≡ true → Some group_id ≡ id_named c group → Some member_id ≡ id_named c member
      → (m : MemberRow) → m ≡ record { group = group_id; user = member_id } → IsTrue (can_be_kept (delta.Member m)) → IsTrue (can_be_kept (delta.NoMember m)) → Joins c group member m
  joins group_id member_id is_one is_other found other row is kept dropped =
      let g = is_named c (sound_of c made) group group_id found in
      let m = is_named c (sound_of c made) member member_id other in
      record {
        group_is = ap (λ (x : MemberRow). user_name c x.group) is ∙ g.name_is;
        member_is = ap (λ (x : MemberRow). user_name c x.user) is ∙ m.name_is;
        kept = kept;
        dropped = dropped;
        joins = ap (can_join c) is ∙ and_from (rows.has_group c group_id) (rows.is_user c member_id)
            (row_passes is_group is_group_kind (λ k. refl) refl group_id (user c group_id) refl (ap is_group (sym g.kind_is) ∙ is_one))
            (row_passes is_person (λ k. not (is_group_kind k)) (λ k. refl) refl member_id (user c member_id) refl (ap is_person (sym m.kind_is) ∙ is_other));
        asked = and_from (is_group (get (grid_of c).users group)) (is_person (get (grid_of c).users member)) is_one is_other;
      }

-- ---- the rows of the operations, test by test

abbrev add_tests : Bool → Bool → Bool → Or ⊤ → Grid → Or Act
add_tests admin joined taken room g = unless admin NotAdmin >>= (λ _. unless joined NoUser >>= (λ _. refuse taken Exists >>= (λ _. room >>= (λ _. Ok (changes g)))))

abbrev drop_tests : Bool → Bool → Bool → Bool → Grid → Or Act
drop_tests admin joined fixed there g = unless admin NotAdmin >>= (λ _. unless joined NoUser >>= (λ _. refuse fixed Fixed >>= (λ _. unless there NoMember >>= (λ _. Ok (changes g)))))

module _ (c : Cat) (made : IsMade c) (u : ℕ) (group member : Text) where
  abbrev name : Text
  name = user_name c u

  abbrev admin : Bool
  admin = is_admin (get (grid_of c).users (user_name c u))

  abbrev added : Grid
  added = record (grid_of c) { members = add (grid_of c).members (group, member) }

  abbrev removed : Grid
  removed = record (grid_of c) { members = remove (grid_of c).members (group, member) }

  abbrev room_is : Or ⊤
  room_is = within what.Members (size (add (grid_of c).members (group, member)))

  pub add_no_admin : admin ≡ false → row (grid_of c) (user_name c u) (addmember group member) ≡ Err NotAdmin
  add_no_admin no_one i = add_tests (no_one i) (users.can_be_member (grid_of c) group member) (users.is_in_group (grid_of c) group member) room_is added

  pub drop_no_admin : admin ≡ false → row (grid_of c) (user_name c u) (rmmember group member) ≡ Err NotAdmin
  drop_no_admin no_one i = drop_tests (no_one i) (users.can_be_member (grid_of c) group member) (same_text group everybody) (has (grid_of c).members (group, member)) removed

  module _ (is_one : is_admin (get (grid_of c).users (user_name c u)) ≡ true) where
    pub add_no_user : users.can_be_member (grid_of c) group member ≡ false → row (grid_of c) (user_name c u) (addmember group member) ≡ Err NoUser
    add_no_user none i = add_tests (is_one i) (none i) (users.is_in_group (grid_of c) group member) room_is added

    pub drop_no_user : users.can_be_member (grid_of c) group member ≡ false → row (grid_of c) (user_name c u) (rmmember group member) ≡ Err NoUser
    drop_no_user none i = drop_tests (is_one i) (none i) (same_text group everybody) (has (grid_of c).members (group, member)) removed

    module _ (m : MemberRow) (j : Joins c group member m) where
      there_is : has (grid_of c).members (group, member) ≡ is_member c m.group m.user
      there_is =
          (λ i. has (grid_of c).members (sym j.group_is i, sym j.member_is i))
          ∙ (let known = members_there c m j.joins in has-member c (sound_of c made) m.group m.user known.0 known.1)

      pub add_everybody : same_text group everybody ≡ true → row (grid_of c) (user_name c u) (addmember group member) ≡ Err Exists
      add_everybody all i = add_tests (is_one i) (j.asked i) (all i || has (grid_of c).members (group, member)) room_is added

      pub drop_everybody : same_text group everybody ≡ true → row (grid_of c) (user_name c u) (rmmember group member) ≡ Err Fixed
      drop_everybody all i = drop_tests (is_one i) (j.asked i) (all i) (has (grid_of c).members (group, member)) removed

      module _ (some : same_text group everybody ≡ false) where
        pub add_member : is_member c m.group m.user ≡ true → row (grid_of c) (user_name c u) (addmember group member) ≡ Err Exists
        add_member is i = add_tests (is_one i) (j.asked i) (some i || (there_is ∙ is) i) room_is added

        pub drop_nobody : is_member c m.group m.user ≡ false → row (grid_of c) (user_name c u) (rmmember group member) ≡ Err NoMember
        drop_nobody none i = drop_tests (is_one i) (j.asked i) (some i) ((there_is ∙ none) i) removed

        module _ (new : is_member c m.group m.user ≡ false) where
          to_room : (room : Or ⊤) → room ≡ within what.Members (length c.members + 1) → row (grid_of c) (user_name c u) (addmember group member) ≡ (room >>= (λ _. Ok (changes added)))
          to_room room is =
              (λ i. add_tests (is_one i) (j.asked i) (some i || (there_is ∙ new) i) room_is added)
              ∙ ap (λ (r : Or ⊤). r >>= (λ _. Ok (changes added)))
              (ap (within what.Members) (size-put member_cmp_total (grid_of c).members (group, member) tt false (sym (there_is ∙ new)) ∙ ap (λ n. n + 1) (size-members c (sound_of c made))) ∙ sym is)

          pub add_full : (refusal : Refusal) → Err refusal ≡ within what.Members (length c.members + 1) → row (grid_of c) (user_name c u) (addmember group member) ≡ Err refusal
          add_full refusal is = to_room (Err refusal) is

          abbrev joined : Cat
          joined = record c { members = with_row tables.member_cmp c.members m }

          grid_joined : grid_of joined ≡ added
          grid_joined = grid-with_member c (sound_of c made) m j.joins ∙ (λ i. record (grid_of c) { members = add (grid_of c).members (j.group_is i, j.member_is i) })

          other_joined : grid_of joined ≢ grid_of c
          other_joined e = put-new member_cmp_total member_cmp-IsAntisymmetric (grid_of c).members (group, member) tt (there_is ∙ new) (ap (λ (g : Grid). g.members) (sym grid_joined ∙ e))

          pub planned_add : (x : ⊤) → Ok x ≡ within what.Members (length c.members + 1) → (deltas : List Delta) → deltas ≡ delta.Member m ∷ []
              → Changes c (user_name c u) (addmember group member) deltas
          planned_add x is deltas are =
              plan_of c joined (user_name c u) (addmember group member) deltas (ap (list_all is_mere) are) (ap (list_all can_be_kept) are ∙ ap (λ b. b && true) j.kept)
              (ap (apply_all c) are ∙ (λ i. elim (where_fits (and_from (can_join c m) (not (is_member c m.group m.user)) j.joins (ap not new) i) 3 joined) [ Ok next ↦ apply_all next [] | Err cause ↦ Err cause ]))
              (to_room (Ok x) is ∙ ap (λ (g : Grid). Ok (changes g)) (sym grid_joined)) (inr other_joined)

        module _ (old : is_member c m.group m.user ≡ true) where
          abbrev parted : Cat
          parted = record c { members = filter (λ o. not ((o.group == m.group) && (o.user == m.user))) c.members }

          grid_parted : grid_of parted ≡ removed
          grid_parted = grid-without_member c (sound_of c made) m j.joins ∙ (λ i. record (grid_of c) { members = remove (grid_of c).members (j.group_is i, j.member_is i) })

          other_parted : grid_of parted ≢ grid_of c
          other_parted e = remove-there member_cmp_total member_cmp-IsAntisymmetric (grid_of c).members (group, member) (there_is ∙ old) (ap (λ (g : Grid). g.members) (sym grid_parted ∙ e))

          pub planned_drop : (deltas : List Delta) → deltas ≡ delta.NoMember m ∷ [] → Changes c (user_name c u) (rmmember group member) deltas
          planned_drop deltas are =
              plan_of c parted (user_name c u) (rmmember group member) deltas (ap (list_all is_mere) are) (ap (list_all can_be_kept) are ∙ ap (λ b. b && true) j.dropped)
              (ap (apply_all c) are ∙ (λ i. elim (where_fits (and_from (can_join c m) (is_member c m.group m.user) j.joins old i) 4 parted) [ Ok next ↦ apply_all next [] | Err cause ↦ Err cause ]))
              ((λ i. drop_tests (is_one i) (j.asked i) (some i) ((there_is ∙ old) i) removed)
              ∙ ap (λ (g : Grid). Ok (changes g)) (sym grid_parted)) (inr other_parted)
