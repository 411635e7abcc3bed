-- The grid once the replicas of one object are others.
use Rattle.std.proofs.Common.{◌≡◌, ◌==◌, ℕ, Bool, true, false, List, Some, Ok, refl, sym, ap, ◌∙◌, eq-eqb, eqb-true}
use Rattle.std.specs.Prelude.{map, filter, not, ◌&&◌}
use Rattle.std.specs.declared.cmp.Ordering.{Ordering}
use Rattle.std.specs.declared.cmp.Ordering.TheVariants.{Equal}
use Rattle.std.specs.Ordering.{nat_cmp, ordering_then, eq_by_cmp, is_eq}
use Rattle.std.specs.Cmp.{nat_cmp_total, unsigned_tied, eq_by_cmp_equiv}
use Rattle.std.specs.FinMap.{nat_cmp-IsAntisymmetric}
use Rattle.std.proofs.lemmas.Bool.{ne_eqb, and_parts}
use Rattle.grid_model.specs.Maps.{Map, put, remove, from_list}
use Rattle.grid_model.specs.Names.{path_cmp}
use Rattle.grid_model.specs.Rows.{Cat, object, replicas_of, replica_cmp, with_row, empty_cat}
use Rattle.grid_model.specs.RowPaths.{collection_path}
use Rattle.grid_model.specs.Applying.{apply, apply_all, replica_fits, is_replica, has_replica}
use Rattle.grid_model.specs.Grid.{Grid, Object, Replica}
use Rattle.grid_model.specs.RowGrids.{grid_of, object_place, object_of, replica_of}
use Rattle.grid_model.specs.declared.deltas.Delta.{Delta}
use Rattle.grid_model.specs.declared.deltas.Delta.TheVariants as delta
use Rattle.grid_model.specs.declared.deltas.ObjectRow.{ObjectRow}
use Rattle.grid_model.specs.declared.deltas.ReplicaRow.{ReplicaRow}
use Rattle.grid_model.proofs.Comparing.{path_cmp_total, path_cmp-IsAntisymmetric, same_path-Decides}
use Rattle.grid_model.proofs.RowOrders.{replica_cmp_total}
use Rattle.tables_laws.proofs.Rows.{IsIn, in_from_find, in_from_filter}
use Rattle.tables_laws.proofs.Numbered.{same_number, equal_number, one_number}
use Rattle.tables_laws.proofs.Places.{objects_apart}
use Rattle.tables_laws.proofs.RowLists.{not_not, filter-filter, filter-swap, filter-with_row, filter-with_row_other}
use Rattle.tables_laws.proofs.TableMaps.{from_list-without, from_list-changed, from_list-with_row}
use Rattle.tables_laws.proofs.Sound.{IsSound, sound-made, fits_so}
use Rattle.tables_laws.proofs.Grids.{grid-same}
use Rattle.tables_laws.proofs.GridOrders.{then_equal}

-- the grid with these replicas of the object
abbrev pub with_replicas : Cat → ObjectRow → Map nat_cmp Replica → Grid
with_replicas c o replicas = record (grid_of c) { objects = put (grid_of c).objects (object_place (collection_path c) o) (record (object_of c o) { replicas = replicas }) }

module _ (c : Cat) (s : IsSound c) (o : ObjectRow) (here : IsIn c.objects o) where
  pub grid-replicas : (rows : List ReplicaRow) → ((id : ℕ) → (id ≡ o.id → ⊥) → filter (λ r. r.object == id) rows ≡ replicas_of c id)
      → (replicas : Map nat_cmp Replica) → from_list (map (λ r. (r.number, replica_of c r)) (filter (λ r. r.object == o.id) rows)) ≡ replicas
      → grid_of (record c { replicas = rows }) ≡ with_replicas c o replicas
  grid-replicas rows others replicas its =
      grid-same c (record c { replicas = rows }) refl (with_replicas c o replicas) (ap (λ (objects : Map path_cmp Object). record (grid_of c) { objects = objects }) (
      from_list-changed path_cmp_total path_cmp-IsAntisymmetric (object_place (collection_path c)) (object_of c) (object_of (record c { replicas = rows })) c.objects o here
      (λ x there e. objects_apart c s x o there here ((same_path-Decides (object_place (collection_path c) x) (object_place (collection_path c) o)).0 e))
      (λ x there apart. ap (λ (rs : List ReplicaRow). record { size = x.size; digest = x.digest; time = x.time; replicas = from_list (map (λ r. (r.number, replica_of c r)) rs) })
      (others x.id (λ is. apart (one_number (λ (z : ObjectRow). z.id) c.objects x o s.cat.objects.ordered there here is))))
      ∙ ap (λ (m : Map nat_cmp Replica). put (grid_of c).objects (object_place (collection_path c) o) (record (object_of c o) { replicas = m })) its))

-- ---- a replica is put

pub same_object : (r x : ReplicaRow) → replica_cmp r x ≡ Equal → r.object ≡ x.object
same_object r x e = same_number r.object x.object (then_equal (nat_cmp r.object x.object) (nat_cmp r.number x.number) e).0

module _ (c : Cat) (s : IsSound c) (r : ReplicaRow) (o : ObjectRow) (found : object c r.object ≡ Some o) where
  its : IsIn c.objects o × (o.id ≡ r.object)
  its = let row = in_from_find (λ x. x.id == r.object) c.objects o found in (row.0, eqb-true o.id r.object row.1)

  -- its number tells it apart from the others of its object
  own : (x : ReplicaRow) → IsIn (replicas_of c o.id) x → eq_by_cmp nat_cmp x.number r.number ≡ is_eq (replica_cmp r x)
  own x here =
      let its_object : x.object ≡ o.id = eqb-true x.object o.id (in_from_filter (λ y. y.object == o.id) c.replicas x here).1 in
      let level : nat_cmp r.object x.object ≡ Equal = equal_number r.object x.object (sym its.1 ∙ sym its_object) in
      (eq_by_cmp_equiv nat_cmp_total).symm x.number r.number ∙ ap (λ (a : Ordering). is_eq (ordering_then a (nat_cmp r.number x.number))) (sym level)

  pub grid-with_replica : grid_of (record c { replicas = with_row replica_cmp c.replicas r }) ≡ with_replicas c o (put (object_of c o).replicas r.number (replica_of c r))
  grid-with_replica =
      grid-replicas c s o its.0 (with_row replica_cmp c.replicas r)
      (λ id apart. filter-with_row_other replica_cmp (λ x. x.object == id) c.replicas r (ne_eqb r.object id (λ is. apart (sym is ∙ sym its.1)))
      (λ x here e. ne_eqb x.object id (λ is. apart (sym is ∙ sym (same_object r x e) ∙ sym its.1))))
      (put (object_of c o).replicas r.number (replica_of c r))
      (ap (λ (rows : List ReplicaRow). from_list (map (λ x. (x.number, replica_of c x)) rows))
      (filter-with_row replica_cmp (λ x. x.object == o.id) replica_cmp_total c.replicas r s.cat.replicas.ordered (eq-eqb r.object o.id (sym its.1))
      (λ x here e. eq-eqb x.object o.id (sym (same_object r x e) ∙ sym its.1)))
      ∙ from_list-with_row nat_cmp_total replica_cmp (λ (x : ReplicaRow). x.number) (λ (x : ReplicaRow). replica_of c x) nat_cmp-IsAntisymmetric (replicas_of c o.id) r own)

pub grid-replica : (deltas : List Delta) (c d : Cat) (row : ReplicaRow) (o : ObjectRow) → apply_all empty_cat deltas ≡ Ok c → object c row.object ≡ Some o → apply c (delta.Replica row) ≡ Ok d
    → grid_of d ≡ record (grid_of c) {
      objects = put (grid_of c).objects (object_place (collection_path c) o) (record (object_of c o) { replicas = put (object_of c o).replicas row.number (replica_of c row) });
    }
grid-replica deltas c d row o made found e =
    let so = fits_so (replica_fits c row) 9 (record c { replicas = with_row replica_cmp c.replicas row }) d e in
    ap (λ (x : Cat). grid_of x) (sym so.1) ∙ grid-with_replica c (sound-made deltas c made) row o found

-- ---- a replica is taken away

module _ (c : Cat) (s : IsSound c) (of number : ℕ) (o : ObjectRow) (found : object c of ≡ Some o) where
  abbrev stays : ReplicaRow → Bool
  stays x = not (is_replica of number x)

  pub grid-without_replica : grid_of (record c { replicas = filter (λ x. not (is_replica of number x)) c.replicas }) ≡ with_replicas c o (remove (object_of c o).replicas number)
  grid-without_replica =
      grid-replicas c s o its.0 (filter stays c.replicas)
      (λ id apart. filter-filter (λ x. x.object == id) stays c.replicas (λ x here gone. ne_eqb x.object id (λ is. apart (sym is ∙ (its_replica x gone).0 ∙ sym its.1))))
      (remove (object_of c o).replicas number)
      (ap (λ (rows : List ReplicaRow). from_list (map (λ x. (x.number, replica_of c x)) rows)) (filter-swap (λ x. x.object == o.id) stays c.replicas)
      ∙ from_list-without nat_cmp_total replica_cmp (λ (x : ReplicaRow). x.number) (λ (x : ReplicaRow). replica_of c x) nat_cmp-IsAntisymmetric (replicas_of c o.id) stays number (λ x here.
      let its_object : (x.object == of) ≡ true = eq-eqb x.object of (eqb-true x.object o.id (in_from_filter (λ y. y.object == o.id) c.replicas x here).1 ∙ its.1) in
      unsigned_tied x.number number ∙ sym (ap (λ b. b && (x.number == number)) its_object) ∙ not_not (is_replica of number x)))
    where
      its : IsIn c.objects o × (o.id ≡ of)
      its = let row = in_from_find (λ x. x.id == of) c.objects o found in (row.0, eqb-true o.id of row.1)

      its_replica : (x : ReplicaRow) → stays x ≡ false → (x.object ≡ of) × (x.number ≡ number)
      its_replica x gone =
          let parts = and_parts (x.object == of) (x.number == number) (not_not (is_replica of number x) ∙ ap not gone) in
          (eqb-true x.object of parts.0, eqb-true x.number number parts.1)

pub grid-no_replica : (deltas : List Delta) (c d : Cat) (of number : ℕ) (o : ObjectRow) → apply_all empty_cat deltas ≡ Ok c → object c of ≡ Some o → apply c (delta.NoReplica of number) ≡ Ok d
    → grid_of d ≡ record (grid_of c) {
      objects = put (grid_of c).objects (object_place (collection_path c) o) (record (object_of c o) { replicas = remove (object_of c o).replicas number });
    }
grid-no_replica deltas c d of number o made found e =
    let so = fits_so (has_replica c of number) 10 (record c { replicas = filter (λ x. not (is_replica of number x)) c.replicas }) d e in
    ap (λ (x : Cat). grid_of x) (sym so.1) ∙ grid-without_replica c (sound-made deltas c made) of number o found
