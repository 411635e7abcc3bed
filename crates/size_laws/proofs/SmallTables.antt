-- The rows of a made catalogue whose grid is within the limits: each stands in the grid.
use Rattle.std.proofs.Common.{◌≡◌, ◌∙◌, ◌==◌, ◌+◌, ◌≤◌, Bool, true, false, cond, List, [], ◌∷◌}
use Rattle.std.proofs.Common.{length, Option, Some, None, inl, inr, refl, sym, ap, arith, eqb-true, eq-eqb}
use Rattle.std.specs.Prelude.{find, option_map, is_some}
use Rattle.std.specs.List.Sorted.{IsStrictlySortedBy}
use Rattle.std.specs.Ordering.{nat_cmp, eq_by_cmp}
use Rattle.std.specs.Cmp.{IsTotalOrder, nat_cmp_total}
use Rattle.std.specs.FinMap.{IsAntisymmetric, nat_cmp-IsAntisymmetric}
use Rattle.std.specs.declared.cmp.Ordering.{Ordering}
use Rattle.std.specs.declared.cmp.Ordering.TheVariants.{Less, Equal}
use Rattle.std.proofs.lemmas.Bool.{false_from_ne_true}
use Rattle.grid_model.specs.Maps.{get, from_list}
use Rattle.grid_model.specs.MapLists.{size}
use Rattle.grid_model.specs.Limits.{object_size}
use Rattle.grid_model.specs.Rows.{Cat, replica_cmp, replicas_of, resource_cmp}
use Rattle.grid_model.specs.RowPaths.{collection_path}
use Rattle.grid_model.specs.RowGrids.{grid_of, object_place, object_of, replica_of, resource_of}
use Rattle.grid_model.specs.declared.deltas.ObjectRow.{ObjectRow}
use Rattle.grid_model.specs.declared.deltas.ReplicaRow.{ReplicaRow}
use Rattle.grid_model.specs.declared.deltas.ResourceRow.{ResourceRow}
use Rattle.grid_model.proofs.Comparing.{eq_by_cmp-Decides, text_cmp_total, text_cmp-IsAntisymmetric, path_cmp_total, path_cmp-IsAntisymmetric}
use Rattle.grid_model.proofs.RowOrders.{replica_cmp_total}
use Rattle.tables_laws.proofs.Rows.{IsIn, in_from_all, all_from_in, find_from_in, filter_from_in, in_from_filter, in_once}
use Rattle.tables_laws.proofs.Numbered.{equal_number}
use Rattle.tables_laws.proofs.Places.{objects_apart, row_there}
use Rattle.tables_laws.proofs.Standing.{ReplicaStands}
use Rattle.tables_laws.proofs.Sound.{IsSound, sound-made}
use Rattle.tables_laws.proofs.TableMaps.{entries_of, get-rows}
use Rattle.size_laws.specs.Laws.{RowsAreSmall, StartIsWithin}
use Rattle.size_laws.specs.Within.{IsSmall, IsWithin}
use Rattle.size_laws.proofs.SmallMaps.{each-get, size-put}
use Rattle.size_laws.proofs.SmallObjects.{HasSmallSize}

-- ---- rows and the entries of their maps

find_none : {X : Type 0} (p : X → Bool) (rows : List X) → ((x : X) → IsIn rows x → p x ≡ false) → find p rows ≡ None
find_none p [] none = refl
find_none p (r ∷ rows) none = ap (λ b. cond b (Some r) (find p rows)) (none r (inl refl)) ∙ find_none p rows (λ x later. none x (inr later))

module _ {K V X : Type 0} {R : K → K → Ordering} (o : IsTotalOrder R) (same : IsAntisymmetric R) (key : X → K) (value : X → V) where
  equal : (a b : K) → eq_by_cmp R a b ≡ true → a ≡ b
  equal a b e = (eq_by_cmp-Decides o same a b).0 e

  -- the value of a row whose key is its own
  get-row : (rows : List X) (x : X) → IsIn rows x → ((y : X) → IsIn rows y → key y ≡ key x → y ≡ x)
      → get (from_list {R = R} (entries_of key value rows)) (key x) ≡ Some (value x)
  get-row rows x here own =
      get-rows o key value rows (key x)
      ∙ ap (option_map value) (find_from_in (λ y. eq_by_cmp R (key y) (key x)) rows x here ((eq_by_cmp-Decides o same (key x) (key x)).1 refl)
      (λ y there tied. own y there (equal (key y) (key x) tied)))

  -- as many entries as rows, where rows with one key are one
  size-rows : (cmp : X → X → Ordering) (rows : List X) → IsStrictlySortedBy cmp rows → ((x y : X) → IsIn rows x → IsIn rows y → key y ≡ key x → cmp x y ≡ Equal)
      → size (from_list {R = R} (entries_of key value rows)) ≡ length rows
  unfolding IsStrictlySortedBy
  size-rows cmp [] sorted own = refl
  size-rows cmp (r ∷ rows) sorted own =
      let rest = size-rows cmp rows sorted.1 (λ x y here there. own x y (inr here) (inr there)) in
      let grown = size-put o (from_list {R = R} (entries_of key value rows)) (key r) (value r)
      ∙ ap (λ (v : Option V). cond (is_some v) (size (from_list {R = R} (entries_of key value rows)))
      (size (from_list {R = R} (entries_of key value rows)) + 1))
      (get-rows o key value rows (key r) ∙ ap (option_map value) (find_none (λ y. eq_by_cmp R (key y) (key r)) rows other)) in
      omega (arith, rest, grown)
    where
      other : (x : X) → IsIn rows x → eq_by_cmp R (key x) (key r) ≡ false
      other x here = false_from_ne_true (eq_by_cmp R (key x) (key r)) (λ tied.
          let below : cmp r x ≡ Less = in_from_all (λ y. cmp r y ≡ Less) rows sorted.0 x here in
          let tie : cmp r x ≡ Equal = own r x (inl refl) (inr here) (equal (key x) (key r) tied) in
          cc)

-- ---- the rows of a catalogue

module _ (c : Cat) (s : IsSound c) (w : IsWithin (grid_of c)) where
  object_small : (x : ObjectRow) → IsIn c.objects x → IsSmall (object_of c x)
  object_small x here =
      each-get IsSmall (grid_of c).objects (object_place (collection_path c) x) (object_of c x) w.objects
      (get-row path_cmp_total path_cmp-IsAntisymmetric (object_place (collection_path c)) (object_of c) c.objects x here
      (λ y there same. objects_apart c s y x there here same))

  one_replica : (x y : ReplicaRow) → IsIn c.replicas x → IsIn c.replicas y → x.object ≡ y.object → x.number ≡ y.number → x ≡ y
  one_replica x y here there objects numbers =
      let first : nat_cmp x.object y.object ≡ Equal = equal_number x.object y.object objects in
      let second : nat_cmp x.number y.number ≡ Equal = equal_number x.number y.number numbers in
      in_once replica_cmp replica_cmp_total c.replicas x y s.cat.replicas.ordered here there (rw (first, second) refl)

  replica_small : (r : ReplicaRow) → IsIn c.replicas r → r.size ≤ object_size
  replica_small r here =
      let stands : ReplicaStands c r = in_from_all (ReplicaStands c) c.replicas s.tied.replicas r here in
      let its = row_there (λ (x : ObjectRow). x.id) c.objects r.object stands.0 in
      let kept : IsIn (replicas_of c its.0.id) r = filter_from_in (λ x. x.object == its.0.id) c.replicas r here (eq-eqb r.object its.0.id (sym its.2)) in
      each-get HasSmallSize (object_of c its.0).replicas r.number (replica_of c r) (object_small its.0 its.1).replicas
      (get-row nat_cmp_total nat_cmp-IsAntisymmetric (λ (x : ReplicaRow). x.number) (replica_of c) (replicas_of c its.0.id) r kept (λ y there same.
      let was = in_from_filter (λ x. x.object == its.0.id) c.replicas y there in
      one_replica y r was.0 here (eqb-true y.object its.0.id was.1 ∙ its.2) same))

  resources_few : size (grid_of c).resources ≡ length c.resources
  resources_few =
      size-rows text_cmp_total text_cmp-IsAntisymmetric (λ (x : ResourceRow). x.name) (resource_of c) resource_cmp c.resources s.cat.resources.ordered
      (λ x y here there same. equal_number x.id y.id (s.names.resources_apart x y here there (sym same)))

pub rows_are_small : RowsAreSmall
rows_are_small c made w =
    let s = sound-made made.0 c made.1 in
    let few = resources_few c s w in (
      all_from_in (λ (r : ReplicaRow). r.size ≤ object_size) c.replicas (λ r here. replica_small c s w r here),
      all_from_in (λ (r : ObjectRow). r.size ≤ object_size) c.objects (λ r here. (object_small c s w r here).size),
      omega (arith, few, w.resources),
    )

-- ---- the start

pub start_is_within : StartIsWithin
start_is_within zone admin stores = record { objects = tt; resources = omega arith }
