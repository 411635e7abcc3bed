-- The grid once a user joined a group or left one.
use Rattle.std.proofs.Common.{◌≡◌, ◌==◌, true, List, Ok, refl, sym, ap, ◌∙◌, eq-eqb, eqb-true}
use Rattle.std.specs.Prelude.{filter, not, ◌&&◌}
use Rattle.std.specs.Ordering.{nat_cmp, is_eq}
use Rattle.std.specs.Cmp.{Equal-is}
use Rattle.std.proofs.lemmas.Bool.{and_parts, and_from}
use Rattle.grid_model.specs.Maps.{Set, add, remove}
use Rattle.grid_model.specs.Names.{Text}
use Rattle.grid_model.specs.Grid.{group_member_cmp}
use Rattle.grid_model.specs.Rows.{Cat, is_member, with_row, empty_cat}
use Rattle.grid_model.specs.Rows as rows
use Rattle.grid_model.specs.RowGrids.{grid_of, user_name}
use Rattle.grid_model.specs.Applying.{apply, apply_all, can_join}
use Rattle.grid_model.specs.declared.deltas.Delta.{Delta}
use Rattle.grid_model.specs.declared.deltas.Delta.TheVariants as delta
use Rattle.grid_model.specs.declared.deltas.MemberRow.{MemberRow}
use Rattle.tables_laws.proofs.Rows.{IsIn, in_from_all}
use Rattle.tables_laws.proofs.Numbered.{same_number, equal_number}
use Rattle.tables_laws.proofs.RowLists.{not_not}
use Rattle.tables_laws.proofs.TableMaps.{tied_so, from_list-with_row, from_list-without}
use Rattle.tables_laws.proofs.GridOrders.{then_equal, member_cmp_total, member_cmp-IsAntisymmetric}
use Rattle.tables_laws.proofs.Standing.{MemberStands}
use Rattle.tables_laws.proofs.Ties.{members_there}
use Rattle.tables_laws.proofs.Places.{user_names_apart}
use Rattle.tables_laws.proofs.Sound.{IsSound, sound-made, fits_so}
use Rattle.tables_laws.proofs.Grids.{grid-same}

module _ (c : Cat) (s : IsSound c) (m : MemberRow) (joins : can_join c m ≡ true) where
  abbrev key : MemberRow → Text × Text
  key x = (user_name c x.group, user_name c x.user)

  -- other members have other names
  ids_same : (x : MemberRow) → IsIn c.members x → key x ≡ key m → (x.group ≡ m.group) × (x.user ≡ m.user)
  ids_same x here same =
      let theirs = members_there c x (in_from_all (MemberStands c) c.members s.tied.members x here) in
      let its = members_there c m joins in
      (user_names_apart c s x.group m.group theirs.0 its.0 (ap (λ (k : Text × Text). k.0) same), user_names_apart c s x.user m.user theirs.1 its.1 (ap (λ (k : Text × Text). k.1) same))

  keys_same : (x : MemberRow) → x.group ≡ m.group → x.user ≡ m.user → key x ≡ key m
  keys_same x group user i = (user_name c (group i), user_name c (user i))

  pub grid-with_member : grid_of (record c { members = with_row rows.member_cmp c.members m }) ≡ record (grid_of c) { members = add (grid_of c).members (key m) }
  grid-with_member =
      grid-same c (record c { members = with_row rows.member_cmp c.members m }) refl (record (grid_of c) { members = add (grid_of c).members (key m) }) (
      ap (λ (ms : Set group_member_cmp). record (grid_of c) { members = ms }) (
      from_list-with_row member_cmp_total rows.member_cmp key (λ x. tt) member_cmp-IsAntisymmetric c.members m (λ x here.
      tied_so member_cmp_total member_cmp-IsAntisymmetric (key x) (key m) (is_eq (rows.member_cmp m x))
      (λ same. let ids = ids_same x here same in (Equal-is (rows.member_cmp m x)).1 (rw (equal_number m.group x.group (sym ids.0), equal_number m.user x.user (sym ids.1)) refl))
      (λ e. let parts = then_equal (nat_cmp m.group x.group) (nat_cmp m.user x.user) ((Equal-is (rows.member_cmp m x)).0 e) in
      keys_same x (sym (same_number m.group x.group parts.0)) (sym (same_number m.user x.user parts.1))))))

  pub grid-without_member : grid_of (record c { members = filter (λ o. not ((o.group == m.group) && (o.user == m.user))) c.members }) ≡ record (grid_of c) { members = remove (grid_of c).members (key m) }
  grid-without_member =
      grid-same c (record c { members = filter (λ o. not ((o.group == m.group) && (o.user == m.user))) c.members }) refl (record (grid_of c) { members = remove (grid_of c).members (key m) }) (
      ap (λ (ms : Set group_member_cmp). record (grid_of c) { members = ms }) (
      from_list-without member_cmp_total rows.member_cmp key (λ x. tt) member_cmp-IsAntisymmetric c.members (λ o. not ((o.group == m.group) && (o.user == m.user))) (key m) (λ x here.
      tied_so member_cmp_total member_cmp-IsAntisymmetric (key x) (key m) ((x.group == m.group) && (x.user == m.user))
      (λ same. let ids = ids_same x here same in and_from (x.group == m.group) (x.user == m.user) (eq-eqb x.group m.group ids.0) (eq-eqb x.user m.user ids.1))
      (λ e. let parts = and_parts (x.group == m.group) (x.user == m.user) e in keys_same x (eqb-true x.group m.group parts.0) (eqb-true x.user m.user parts.1))
      ∙ not_not ((x.group == m.group) && (x.user == m.user)))))

pub grid-member : (deltas : List Delta) (c d : Cat) (row : MemberRow) → apply_all empty_cat deltas ≡ Ok c → apply c (delta.Member row) ≡ Ok d
    → grid_of d ≡ record (grid_of c) { members = add (grid_of c).members (user_name c row.group, user_name c row.user) }
grid-member deltas c d row made e =
    let so = fits_so (can_join c row && not (is_member c row.group row.user)) 3 (record c { members = with_row rows.member_cmp c.members row }) d e in
    ap (λ (x : Cat). grid_of x) (sym so.1) ∙ grid-with_member c (sound-made deltas c made) row (and_parts (can_join c row) (not (is_member c row.group row.user)) so.0).0

pub grid-no_member : (deltas : List Delta) (c d : Cat) (row : MemberRow) → apply_all empty_cat deltas ≡ Ok c → apply c (delta.NoMember row) ≡ Ok d
    → grid_of d ≡ record (grid_of c) { members = remove (grid_of c).members (user_name c row.group, user_name c row.user) }
grid-no_member deltas c d row made e =
    let so = fits_so (can_join c row && is_member c row.group row.user) 4 (record c { members = filter (λ o. not ((o.group == row.group) && (o.user == row.user))) c.members }) d e in
    ap (λ (x : Cat). grid_of x) (sym so.1) ∙ grid-without_member c (sound-made deltas c made) row (and_parts (can_join c row) (is_member c row.group row.user) so.0).0
