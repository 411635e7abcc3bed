-- How much a map of rows has: as many keys as there are rows, where no two rows have one key.
use Rattle.std.proofs.Common.{◌≡◌, ℕ, suc, ◌+◌, cond, List, [], ◌∷◌, length, Option, Some, None, inl, inr, refl, sym, ap, ◌∙◌, arith}
use Rattle.std.specs.Prelude.{find, option_map, is_some}
use Rattle.std.specs.List.Sorted.{IsStrictlySortedBy}
use Rattle.std.specs.declared.cmp.Ordering.{Ordering}
use Rattle.std.specs.declared.cmp.Ordering.TheVariants.{Less, Equal}
use Rattle.std.specs.Ordering.{eq_by_cmp}
use Rattle.std.specs.Cmp.{IsTotalOrder}
use Rattle.std.specs.FinMap.{IsAntisymmetric}
use Rattle.std.specs.FinMap.Entries.{length-put}
use Rattle.grid_model.specs.Maps.{get, from_list}
use Rattle.grid_model.specs.MapLists.{size}
use Rattle.grid_model.specs.Names.{Text}
use Rattle.grid_model.specs.Rows as tables
use Rattle.grid_model.specs.Rows.{Cat, collection_cmp, object_cmp, user_cmp, entry_cmp, item_number}
use Rattle.grid_model.specs.RowPaths.{collection_path}
use Rattle.grid_model.specs.RowGrids.{grid_of, collection_place, object_place, object_of, user_name}
use Rattle.grid_model.specs.Applying.{gives_access, is_given}
use Rattle.grid_model.specs.declared.deltas.CollectionRow.{CollectionRow}
use Rattle.grid_model.specs.declared.deltas.ObjectRow.{ObjectRow}
use Rattle.grid_model.specs.declared.deltas.EntryRow.{EntryRow}
use Rattle.grid_model.specs.declared.deltas.MemberRow.{MemberRow}
use Rattle.grid_model.specs.declared.deltas.UserRow.{UserRow}
use Rattle.grid_model.proofs.Comparing.{path_cmp_total, path_cmp-IsAntisymmetric, text_cmp_total, text_cmp-IsAntisymmetric, eq_by_cmp-Decides}
use Rattle.grid_model.proofs.MapLemmas.{entries-put}
use Rattle.std.proofs.lemmas.Bool.{and_parts}
use Rattle.tables_laws.proofs.Rows.{IsIn, in_from_all, in_from_find}
use Rattle.tables_laws.proofs.Numbered.{equal_number}
use Rattle.tables_laws.proofs.TableMaps.{entries_of, get-rows}
use Rattle.tables_laws.proofs.GridOrders.{access_cmp_total, access_cmp-IsAntisymmetric, member_cmp_total, member_cmp-IsAntisymmetric}
use Rattle.tables_laws.proofs.Standing.{EntryStands, MemberStands}
use Rattle.tables_laws.proofs.Ties.{members_there}
use Rattle.tables_laws.proofs.Places.{collections_apart, objects_apart, collection_there, user_names_apart}
use Rattle.tables_laws.proofs.Entries.{key_of, keys_apart}
use Rattle.tables_laws.proofs.Sound.{IsSound}

-- ---- rows with keys of their own

module _ {K X : Type 0} (key : X → K) where
  -- no two rows have one key
  abbrev pub Apart : List X → Type 0
  Apart [] = Unit {0}
  Apart (r ∷ rows) = ((x : X) → IsIn rows x → key x ≡ key r → ⊥) × Apart rows

  -- rows in order, where one key means one place in the order
  pub apart_in_order : (cmp : X → X → Ordering) (rows : List X) → IsStrictlySortedBy cmp rows → ((x y : X) → IsIn rows x → IsIn rows y → key y ≡ key x → cmp x y ≡ Equal) → Apart rows
  unfolding IsStrictlySortedBy
  apart_in_order cmp [] sorted alone = tt
  apart_in_order cmp (r ∷ rows) sorted alone = (
    λ x later same.
        let below : cmp r x ≡ Less = in_from_all (λ y. cmp r y ≡ Less) rows sorted.0 x later in
        let equal : cmp r x ≡ Equal = alone r x (inl refl) (inr later) same in
        cc,
    apart_in_order cmp rows sorted.1 (λ x y here there same. alone x y (inr here) (inr there) same),
  )

module _ {K V X : Type 0} {R : K → K → Ordering} (o : IsTotalOrder R) (same : IsAntisymmetric R) (key : X → K) (value : X → V) where
  pub size-rows : (rows : List X) → Apart key rows → size (from_list {R = R} (entries_of key value rows)) ≡ length rows
  size-rows [] apart = refl
  size-rows (r ∷ rows) apart =
      ap length (entries-put o (from_list (entries_of key value rows)) (key r) (value r))
      ∙ length-put R o (key r) (value r) (from_list {R = R} (entries_of key value rows)).entries (from_list {R = R} (entries_of key value rows)).sorted
      ∙ ap (λ (v : Option V). cond (is_some v) (size (from_list {R = R} (entries_of key value rows))) (size (from_list {R = R} (entries_of key value rows)) + 1)) none
      ∙ one_more (size (from_list {R = R} (entries_of key value rows))) (length rows) (size-rows rows apart.1)
    where
      none : get (from_list {R = R} (entries_of key value rows)) (key r) ≡ None
      none = get-rows o key value rows (key r) ∙ by (find (λ x. eq_by_cmp R (key x) (key r)) rows) refl
        where
          by : (f : Option X) → find (λ x. eq_by_cmp R (key x) (key r)) rows ≡ f → option_map value f ≡ None
          by None is = refl
          by (Some x) is = let found = in_from_find (λ y. eq_by_cmp R (key y) (key r)) rows x is in absurd (apart.0 x found.0 ((eq_by_cmp-Decides o same (key x) (key r)).0 found.1))

      one_more : (a b : ℕ) → a ≡ b → a + 1 ≡ suc b
      one_more a b e = omega (arith, e)

-- ---- the maps of a grid

module _ (c : Cat) (s : IsSound c) where
  pub size-collections : size (grid_of c).collections ≡ length c.collections
  size-collections =
      size-rows path_cmp_total path_cmp-IsAntisymmetric (λ (r : CollectionRow). collection_place (collection_path c) r.id) (λ (r : CollectionRow). r.inherit) c.collections
      (apart_in_order (λ (r : CollectionRow). collection_place (collection_path c) r.id) collection_cmp c.collections s.cat.collections.ordered
      (λ x y here there e. equal_number x.id y.id (collections_apart c s x.id y.id (collection_there c s x here) (collection_there c s y there) (sym e))))

  -- one item and one user mean one row
  pub one_entry : (x y : EntryRow) → IsIn c.entries x → IsIn c.entries y → key_of c y ≡ key_of c x → entry_cmp x y ≡ Equal
  one_entry x y here there e =
      let stands : EntryStands c x = in_from_all (EntryStands c) c.entries s.tied.entries x here in
      let ids = keys_apart c s x.kind x.id x.user (and_parts (gives_access x.kind) (is_given x.level) stands.0).0 stands.1 stands.2 y (in_from_all (EntryStands c) c.entries s.tied.entries y there) e in
      rw (equal_number (item_number x.kind) (item_number y.kind) (ap item_number (sym ids.0)), equal_number x.id y.id (sym ids.1), equal_number x.user y.user (sym ids.2)) refl

  pub size-access : size (grid_of c).access ≡ length c.entries
  size-access =
      size-rows access_cmp_total access_cmp-IsAntisymmetric (key_of c) (λ (e : EntryRow). e.level) c.entries
      (apart_in_order (key_of c) entry_cmp c.entries s.cat.entries.ordered one_entry)

  pub size-users : size (grid_of c).users ≡ length c.users
  size-users =
      size-rows text_cmp_total text_cmp-IsAntisymmetric (λ (r : UserRow). r.name) (λ (r : UserRow). r.kind) c.users
      (apart_in_order (λ (r : UserRow). r.name) user_cmp c.users s.cat.users.ordered (λ x y here there e. equal_number x.id y.id (s.names.users_apart x y here there (sym e))))

  pub size-objects : size (grid_of c).objects ≡ length c.objects
  size-objects =
      size-rows path_cmp_total path_cmp-IsAntisymmetric (object_place (collection_path c)) (object_of c) c.objects
      (apart_in_order (object_place (collection_path c)) object_cmp c.objects s.cat.objects.ordered
      (λ x y here there e. equal_number x.id y.id (ap (λ (o : ObjectRow). o.id) (objects_apart c s x y here there (sym e)))))

  pub size-members : size (grid_of c).members ≡ length c.members
  size-members =
      size-rows member_cmp_total member_cmp-IsAntisymmetric (λ (m : MemberRow). (user_name c m.group, user_name c m.user)) (λ (m : MemberRow). tt) c.members
      (apart_in_order (λ (m : MemberRow). (user_name c m.group, user_name c m.user)) tables.member_cmp c.members s.cat.members.ordered (λ x y here there e.
      let a = members_there c x (in_from_all (MemberStands c) c.members s.tied.members x here) in
      let b = members_there c y (in_from_all (MemberStands c) c.members s.tied.members y there) in
      let groups : x.group ≡ y.group = user_names_apart c s x.group y.group a.0 b.0 (sym (ap (λ (k : Text × Text). k.0) e)) in
      let users : x.user ≡ y.user = user_names_apart c s x.user y.user a.1 b.1 (sym (ap (λ (k : Text × Text). k.1) e)) in
      rw (equal_number x.group y.group groups, equal_number x.user y.user users) refl))
