-- The grid once a whole file was stored: its vault number is an orphan's no more, and it is an object with one replica.
use Rattle.std.proofs.Common.{◌≡◌, ◌++◌, ℕ, true, false, [], ◌∷◌, Some, Ok, refl, sym, ap, ◌∙◌, subst}
use Rattle.std.specs.Prelude.{filter, not, ◌==◌}
use Rattle.grid_model.specs.Maps.{Map, empty, put}
use Rattle.grid_model.specs.Names.{path_cmp}
use Rattle.grid_model.specs.Rows.{Cat, object, has_object, with_row, replica_cmp}
use Rattle.grid_model.specs.RowPaths.{collection_path}
use Rattle.grid_model.specs.Applying.{apply, apply_all, has_orphan, object_fits, replica_fits}
use Rattle.grid_model.specs.Grid.{Grid, Object}
use Rattle.grid_model.specs.RowGrids.{CollectionPaths, grid_of, collection_place, object_place, object_of, replica_of}
use Rattle.grid_model.specs.declared.deltas.Delta.TheVariants as delta
use Rattle.grid_model.specs.declared.deltas.ObjectRow.{ObjectRow}
use Rattle.grid_model.specs.declared.deltas.ReplicaRow.{ReplicaRow}
use Rattle.grid_model.specs.declared.deltas.Numbers.{Numbers}
use Rattle.grid_model.proofs.MapLemmas.{put-again}
use Rattle.grid_model.proofs.Comparing.{path_cmp_total, path_cmp-IsAntisymmetric}
use Rattle.tables_laws.proofs.Numbered.{put_found}
use Rattle.tables_laws.proofs.Forest.{with_object}
use Rattle.tables_laws.proofs.Sound.{IsSound, sound-with_object, sound-apply, fits_so, after_first, ok-same}
use Rattle.tables_laws.proofs.Grids.{paths_same, grid-unseen}
use Rattle.tables_laws.proofs.NewObjects.{grid-with_object, made_is}
use Rattle.tables_laws.proofs.Replicas.{grid-with_replica}

-- an object as its row has it, without replicas and with one
abbrev bare : ObjectRow → Object
bare o = record { size = o.size; digest = o.digest; time = o.time; replicas = empty }

abbrev filled : Cat → ReplicaRow → Object → Object
filled c r x = record x { replicas = put x.replicas r.number (replica_of c r) }

-- a new object is put, and then its replica
pub grid-object_replica : (c : Cat) (s : IsSound c) (o : ObjectRow) (r : ReplicaRow) → has_object c o.id ≡ false → object_fits c o ≡ true → r.object ≡ o.id
    → grid_of (record (with_object c o) { replicas = with_row replica_cmp c.replicas r })
    ≡ record (grid_of c) { objects = put (grid_of c).objects (object_place (collection_path c) o) (record { size = o.size; digest = o.digest; time = o.time; replicas = put empty r.number (replica_of c r) }) }
grid-object_replica c s o r new fits its =
    let found : object (with_object c o) r.object ≡ Some o = ap (λ i. object (with_object c o) i) its ∙ put_found (λ (x : ObjectRow). x.id) c.objects o in
    grid-with_replica (with_object c o) (sound-with_object c s o fits) r o found
    ∙ ap (λ (g : Grid). record g { objects = put g.objects (object_place (collection_path (with_object c o)) o) (filled c r (object_of c o)) }) (grid-with_object c s o new fits)
    ∙ ap (λ (paths : CollectionPaths). record (grid_of c) { objects = put (put (grid_of c).objects (object_place (collection_path c) o) (bare o)) (object_place paths o) (filled c r (object_of c o)) })
    (paths_same c (with_object c o) refl)
    ∙ ap (λ (m : Map path_cmp Object). record (grid_of c) { objects = m }) (put-again path_cmp_total path_cmp-IsAntisymmetric (grid_of c).objects (object_place (collection_path c) o) (bare o) (filled c r (object_of c o)))
    ∙ ap (λ (x : Object). record (grid_of c) { objects = put (grid_of c).objects (object_place (collection_path c) o) (filled c r x) }) (made_is c s o new fits)

-- the four changes that a stored file is
pub grid-stored_file : (c d : Cat) (vault : ℕ) (o : ObjectRow) (r : ReplicaRow) (n : Numbers) → IsSound c → has_object c o.id ≡ false → r.object ≡ o.id
    → apply_all c (delta.NoOrphan vault ∷ delta.Object o ∷ delta.Replica r ∷ delta.Numbers n ∷ []) ≡ Ok d
    → grid_of d ≡ record (grid_of c) {
      objects = put (grid_of c).objects (collection_place (collection_path c) o.collection ++ o.name ∷ []) (record { size = o.size; digest = o.digest; time = o.time; replicas = put empty r.number (replica_of c r) });
    }
grid-stored_file c d vault o r n s new its e =
    let one = after_first (apply c (delta.NoOrphan vault)) (delta.Object o ∷ delta.Replica r ∷ delta.Numbers n ∷ []) d e in
    let two = after_first (apply one.0 (delta.Object o)) (delta.Replica r ∷ delta.Numbers n ∷ []) d one.2 in
    let three = after_first (apply two.0 (delta.Replica r)) (delta.Numbers n ∷ []) d two.2 in
    let four = after_first (apply three.0 (delta.Numbers n)) [] d three.2 in
    let last : four.0 ≡ d = ok-same four.0 d (apply_all four.0 []) refl four.2 in
    let freed = fits_so (has_orphan c vault) 18 (record c { orphans = filter (λ x. not (x.vault == vault)) c.orphans }) one.0 one.1 in
    let named = fits_so (object_fits one.0 o) 7 (with_object one.0 o) two.0 two.1 in
    let kept = fits_so (replica_fits two.0 r) 9 (record two.0 { replicas = with_row replica_cmp two.0.replicas r }) three.0 three.1 in
    let new_then : has_object one.0 o.id ≡ false = subst (λ (x : Cat). has_object x o.id ≡ false) freed.1 new in
    let both : record (with_object one.0 o) { replicas = with_row replica_cmp one.0.replicas r } ≡ three.0 = subst (λ (x : Cat). record x { replicas = with_row replica_cmp x.replicas r } ≡ three.0) (sym named.1) kept.1 in
    ap (λ (x : Cat). grid_of x) (sym last) ∙ grid-unseen three.0 four.0 (delta.Numbers n) refl four.1
    ∙ ap (λ (x : Cat). grid_of x) (sym both) ∙ grid-object_replica one.0 (sound-apply c one.0 (delta.NoOrphan vault) s one.1) o r new_then named.0 its
    ∙ ap (λ (g : Grid). record g { objects = put g.objects (object_place (collection_path one.0) o) (filled one.0 r (bare o)) }) (grid-unseen c one.0 (delta.NoOrphan vault) refl one.1)
    ∙ subst (λ (x : Cat). record (grid_of c) { objects = put (grid_of c).objects (object_place (collection_path x) o) (filled x r (bare o)) }
    ≡ record (grid_of c) { objects = put (grid_of c).objects (object_place (collection_path c) o) (filled c r (bare o)) }) freed.1
    (ap (λ (paths : CollectionPaths). record (grid_of c) { objects = put (grid_of c).objects (object_place paths o) (filled c r (bare o)) })
    (paths_same c (record c { orphans = filter (λ x. not (x.vault == vault)) c.orphans }) refl))
