-- The grid once an object was moved, renamed or written anew.
use Rattle.std.proofs.Common.{◌≡◌, ◌==◌, ◌++◌, ℕ, true, List, [], ◌∷◌, Option, Some, Ok, inl, inr, refl, sym, ap, ◌∙◌, eqb-true}
use Rattle.std.specs.Prelude.{map, option_map, unwrap_or}
use Rattle.std.specs.Ordering.{is_eq}
use Rattle.std.specs.Cmp.{Equal-is}
use Rattle.std.proofs.lemmas.Bool.Decides.{eqb_tells}
use Rattle.grid_model.specs.Maps.{Map, put, from_list, rekey}
use Rattle.grid_model.specs.Moves.{moved, moved_thing, moved_grid}
use Rattle.grid_model.specs.Names.{Path, path_cmp}
use Rattle.grid_model.specs.Grid.{Grid, Object, object_at, collection_at}
use Rattle.grid_model.specs.Rows.{Cat, object, has_object, has_collection, item_there, object_cmp, replicas_of, empty_cat}
use Rattle.grid_model.specs.RowPaths.{collection_path}
use Rattle.grid_model.specs.RowGrids.{CollectionPaths, grid_of, collection_place, object_place, item_place, thing_of, object_of, replica_of}
use Rattle.grid_model.specs.Applying.{apply, apply_all, object_fits}
use Rattle.grid_model.specs.declared.deltas.Delta.{Delta}
use Rattle.grid_model.specs.declared.deltas.Delta.TheVariants as delta
use Rattle.grid_model.specs.declared.deltas.CollectionRow.{CollectionRow}
use Rattle.grid_model.specs.declared.deltas.ObjectRow.{ObjectRow}
use Rattle.grid_model.specs.declared.grid.ItemKind.{ItemKind}
use Rattle.grid_model.specs.declared.grid.ItemKind.TheVariants as kind
use Rattle.grid_model.proofs.Comparing.{path_cmp_total, path_cmp-IsAntisymmetric}
use Rattle.tables_laws.proofs.Rows.{IsIn, in_from_find}
use Rattle.tables_laws.proofs.Numbered.{same_number, equal_number, one_number, put_found, put_other, put_has}
use Rattle.tables_laws.proofs.Forest.{with_object}
use Rattle.tables_laws.proofs.TableMaps.{tied_so, from_list-same, from_list-with_row}
use Rattle.tables_laws.proofs.Rekeyed.{from_list-rekey}
use Rattle.tables_laws.proofs.UnmovedGrids.{moved_grid-nowhere}
use Rattle.tables_laws.proofs.MovedPaths.{moved-self, moved-root, moved-push}
use Rattle.tables_laws.proofs.MovedCollections.{some_name}
use Rattle.tables_laws.proofs.MovedThings.{collections_moved, triples_moved, access_moved}
use Rattle.tables_laws.proofs.Places.{collection_there, collections_apart, object_there, object_found, objects_apart, mixed_apart, items_apart, child_place, row_there}
use Rattle.tables_laws.proofs.Sound.{IsSound, sound-with_object, sound-made, fits_so}
use Rattle.tables_laws.proofs.Frame.{same_grid}
use Rattle.tables_laws.proofs.Grids.{paths_same}

module _ (c : Cat) (s : IsSound c) (r old : ObjectRow) (found : object c r.id ≡ Some old) (fits : object_fits c r ≡ true) where
  abbrev after : Cat
  after = with_object c r

  sound : IsSound after
  sound = sound-with_object c s r fits

  abbrev place : ObjectRow → Path
  place o = object_place (collection_path c) o

  abbrev from : Path
  from = place old

  abbrev to : Path
  to = place r

  was : IsIn c.objects old × (old.id ≡ r.id)
  was = let its = in_from_find (λ x. x.id == r.id) c.objects old found in (its.0, eqb-true old.id r.id its.1)

  stays : (id : ℕ) → has_object c id ≡ true → has_object after id ≡ true
  stays id has = put_has (λ (x : ObjectRow). x.id) c.objects r id has

  -- where the object with an id is then
  abbrev place_after : ℕ → Path
  place_after id = item_place after (collection_path after) kind.Object id

  same_places : (o : ObjectRow) → object_place (collection_path after) o ≡ place o
  same_places o = ap (λ (paths : CollectionPaths). object_place paths o) (paths_same c after refl)

  new_place : place_after r.id ≡ to
  new_place = ap (λ (f : Option ObjectRow). unwrap_or (option_map (object_place (collection_path after)) f) []) (put_found (λ (x : ObjectRow). x.id) c.objects r) ∙ same_places r

  -- no collection is moved
  collection_after : (id : ℕ) → has_collection c id ≡ true → collection_place (collection_path after) id ≡ moved from to (collection_place (collection_path c) id)
  collection_after =
      collections_moved c after s sound (moved from to) (moved-root from to (λ none. some_name (collection_place (collection_path c) old.collection) old.name none)) (λ has. has) (λ id has. inr (λ x below row. (
        row,
        moved-push from to (collection_place (collection_path c) x.parent) x.name (λ same. mixed_apart c s id old has was.0 (child_place c s id x below row ∙ same)),
      )))

  object_after : (o : ObjectRow) → IsIn c.objects o → place_after o.id ≡ moved from to (place o)
  object_after o here = elim (eqb_tells o.id r.id) [
    | inl is ↦
        let one : o ≡ old = one_number (λ (x : ObjectRow). x.id) c.objects o old s.cat.objects.ordered here was.0 (is.1 ∙ sym was.1) in
        ap place_after is.1 ∙ new_place ∙ sym (moved-self from to) ∙ ap (λ (x : ObjectRow). moved from to (place x)) (sym one)
    | inr other ↦
        ap (λ (f : Option ObjectRow). unwrap_or (option_map (object_place (collection_path after)) f) []) (put_other (λ (x : ObjectRow). x.id) c.objects r o.id other.1 ∙ object_found c s o here)
        ∙ ap (λ (p : Path). p ++ o.name ∷ []) (collection_after o.collection (s.forest.housed o here))
        ∙ sym (moved-push from to (collection_place (collection_path c) o.collection) o.name (λ same. other.1 (ap (λ (x : ObjectRow). x.id) (objects_apart c s o old here was.0 same) ∙ was.1)))
  ]

  things_after : (k : ItemKind) (id : ℕ) → item_there c k id ≡ true → thing_of after (collection_path after) k id ≡ moved_thing (moved from to) (thing_of c (collection_path c) k id)
  things_after kind.Object id has =
      let row = row_there (λ (o : ObjectRow). o.id) c.objects id has in
      ap (λ i. object_at (place_after i)) (sym row.2) ∙ ap object_at (object_after row.0 row.1)
      ∙ ap (λ (f : Option ObjectRow). object_at (moved from to (unwrap_or (option_map (object_place (collection_path c)) f) []))) (sym row.3)
  things_after kind.Collection id has = ap collection_at (collection_after id has)
  things_after kind.Resource id has = refl
  things_after kind.User id has = refl

  -- what was written, with the replicas that there were
  abbrev written : Object
  written = record (object_of c old) { size = r.size; digest = r.digest; time = r.time }

  written_is : object_of c r ≡ written
  written_is = ap (λ id. record { size = r.size; digest = r.digest; time = r.time; replicas = from_list (map (λ x. (x.number, replica_of c x)) (replicas_of c id)) }) (sym was.1)

  abbrev goal : Grid
  goal = record (moved_grid from to (grid_of c)) { objects = put (rekey (moved from to) (grid_of c).objects) to written }

  objects_apart_after : (x y : ObjectRow) → IsIn c.objects x → IsIn c.objects y → place_after x.id ≡ place_after y.id → x.id ≡ y.id
  objects_apart_after x y here there same = (items_apart after sound kind.Object kind.Object x.id y.id refl refl (stays x.id (object_there c s x here)) (stays y.id (object_there c s y there)) same).1

  pub grid-moved_object : grid_of after ≡ goal
  grid-moved_object =
      same_grid (grid_of after) goal refl refl refl refl
      (from_list-rekey path_cmp_total path_cmp-IsAntisymmetric (λ (x : CollectionRow). collection_place (collection_path c) x.id) (λ (x : CollectionRow). collection_place (collection_path after) x.id)
      (λ (x : CollectionRow). x.inherit) (moved from to) c.collections (λ x here. collection_after x.id (collection_there c s x here))
      (λ x y here there same. one_number (λ (z : CollectionRow). z.id) c.collections x y s.cat.collections.ordered here there
      (collections_apart after sound x.id y.id (collection_there c s x here) (collection_there c s y there) same)))
      (from_list-same (object_place (collection_path after)) (λ (x : ObjectRow). place_after x.id) (object_of c) (object_of c) after.objects
      (λ x here. sym (ap (λ (f : Option ObjectRow). unwrap_or (option_map (object_place (collection_path after)) f) []) (object_found after sound x here))) (λ x here. refl)
      ∙ from_list-with_row path_cmp_total object_cmp (λ (x : ObjectRow). place_after x.id) (object_of c) path_cmp-IsAntisymmetric c.objects r (λ x here.
      tied_so path_cmp_total path_cmp-IsAntisymmetric (place_after x.id) (place_after r.id) (is_eq (object_cmp r x))
      (λ same. (Equal-is (object_cmp r x)).1 (equal_number r.id x.id (sym (objects_apart_after x old here was.0 (same ∙ ap place_after (sym was.1)) ∙ was.1))))
      (λ e. ap place_after (sym (same_number r.id x.id ((Equal-is (object_cmp r x)).0 e)))))
      ∙ ap (λ (m : Map path_cmp Object). put m (place_after r.id) (object_of c r))
      (from_list-rekey path_cmp_total path_cmp-IsAntisymmetric place (λ (x : ObjectRow). place_after x.id) (object_of c) (moved from to) c.objects object_after
      (λ x y here there same. one_number (λ (z : ObjectRow). z.id) c.objects x y s.cat.objects.ordered here there (objects_apart_after x y here there same)))
      ∙ ap (λ (p : Path). put (rekey (moved from to) (grid_of c).objects) p (object_of c r)) new_place
      ∙ ap (λ (o : Object). put (rekey (moved from to) (grid_of c).objects) to o) written_is)
      (triples_moved c after s sound (moved from to) sound.tied.triples sound.tied.entries (λ id. refl) things_after)
      (access_moved c after s sound (moved from to) sound.tied.triples sound.tied.entries (λ id. refl) things_after) refl

pub grid-object_moved : (deltas : List Delta) (c d : Cat) (row old : ObjectRow) → apply_all empty_cat deltas ≡ Ok c → object c row.id ≡ Some old → apply c (delta.Object row) ≡ Ok d
    → let from = object_place (collection_path c) old in
    let to = object_place (collection_path c) row in
    let g = moved_grid from to (grid_of c) in
    grid_of d ≡ record g { objects = put g.objects to (record (object_of c old) { size = row.size; digest = row.digest; time = row.time }) }
grid-object_moved deltas c d row old made found e =
    let so = fits_so (object_fits c row) 7 (with_object c row) d e in
    ap (λ (x : Cat). grid_of x) (sym so.1) ∙ grid-moved_object c (sound-made deltas c made) row old found so.0

-- at its place: what is written there is other
pub grid-object_changed : (deltas : List Delta) (c d : Cat) (row old : ObjectRow) → apply_all empty_cat deltas ≡ Ok c → object c row.id ≡ Some old → row.collection ≡ old.collection → row.name ≡ old.name
    → apply c (delta.Object row) ≡ Ok d
    → grid_of d ≡ record (grid_of c) { objects = put (grid_of c).objects (object_place (collection_path c) old) (record (object_of c old) { size = row.size; digest = row.digest; time = row.time }) }
grid-object_changed deltas c d row old made found collections names e =
    let place : Path = object_place (collection_path c) old in
    let written : Object = record (object_of c old) { size = row.size; digest = row.digest; time = row.time } in
    let stays : object_place (collection_path c) row ≡ place = λ i. collection_place (collection_path c) (collections i) ++ names i ∷ [] in
    grid-object_moved deltas c d row old made found e
    ∙ ap (λ (p : Path). record (moved_grid place p (grid_of c)) { objects = put (moved_grid place p (grid_of c)).objects p written }) stays
    ∙ ap (λ (g : Grid). record g { objects = put g.objects place written }) (moved_grid-nowhere place (grid_of c))
