-- The grid once an object or an empty collection was dropped.
use Rattle.std.proofs.Common.{◌≡◌, ◌==◌, ◌++◌, ℕ, true, false, length, [], ◌∷◌, List, Option, Some, None, Ok, refl, sym, ap, ◌∙◌, eq-eqb, eqb-true}
use Rattle.std.specs.Prelude.{map, not, ◌&&◌, option_map, reverse, unwrap_or}
use Rattle.std.proofs.lemmas.Bool.{and_parts, not-true}
use Rattle.std.specs.List.{list_any}
use Rattle.grid_model.specs.Maps.{from_list, remove}
use Rattle.grid_model.specs.Names.{Path}
use Rattle.grid_model.specs.Grid.{thing_triple_cmp, access_cmp, object_at, collection_at}
use Rattle.grid_model.specs.Rows.{Cat, object, has_object, has_collection, item_there, collection_cmp, object_cmp, empty_cat}
use Rattle.grid_model.specs.RowPaths.{names_within, names_up, collection_path}
use Rattle.grid_model.specs.RowGrids.{CollectionPaths, grid_at, grid_of, collection_place, object_place, item_place, thing_of, triple_of, object_of, user_name}
use Rattle.grid_model.specs.Applying.{apply, apply_all, gives_access, is_given, is_told_of, is_empty_collection, may_drop_object, may_drop_collection}
use Rattle.grid_model.specs.declared.deltas.Delta.{Delta}
use Rattle.grid_model.specs.declared.deltas.Delta.TheVariants as delta
use Rattle.grid_model.specs.declared.deltas.CollectionRow.{CollectionRow}
use Rattle.grid_model.specs.declared.deltas.ObjectRow.{ObjectRow}
use Rattle.grid_model.specs.declared.grid.ItemKind.{ItemKind}
use Rattle.grid_model.specs.declared.grid.ItemKind.TheVariants as kind
use Rattle.grid_model.proofs.Comparing.{path_cmp_total, path_cmp-IsAntisymmetric}
use Rattle.tables_laws.proofs.Rows.{IsIn, in_from_all, in_from_find}
use Rattle.tables_laws.proofs.Numbered.{one_number, dropped_other, dropped_has, dropped_in}
use Rattle.tables_laws.proofs.Ways.{its_row, within_all}
use Rattle.tables_laws.proofs.Moving.{within_beside}
use Rattle.tables_laws.proofs.Forest.{way_of, no_child, no_object, without_collection, without_object}
use Rattle.tables_laws.proofs.Ties.{triple_apart, entry_apart}
use Rattle.tables_laws.proofs.Standing.{TripleStands, EntryStands}
use Rattle.tables_laws.proofs.Places.{collection_there, collections_apart, objects_apart}
use Rattle.tables_laws.proofs.RowLists.{not_not}
use Rattle.tables_laws.proofs.TableMaps.{tied_so, from_list-same, from_list-without}
use Rattle.tables_laws.proofs.Frame.{same_grid, triples_same, access_same, place_from_thing}
use Rattle.tables_laws.proofs.Sound.{IsSound, sound-without_collection, sound-made, fits_so}
use Rattle.tables_laws.proofs.Grids.{grid-same}

-- where an item of which nothing is said is dropped, metadata and access stay
module _ (c d : Cat) (s : IsSound c) (next : CollectionPaths) (gone : ItemKind) (id : ℕ) (untold : is_told_of c gone id ≡ false)
    (kept : (k : ItemKind) (j : ℕ) → (k ≡ gone → j ≡ id → ⊥) → item_there c k j ≡ true → thing_of d next k j ≡ thing_of c (collection_path c) k j) where
  triples_left : from_list {R = thing_triple_cmp} (map (λ t. (triple_of d next t, tt)) c.triples) ≡ (grid_of c).triples
  triples_left = triples_same c d next (λ t here. kept t.kind t.id (triple_apart c gone id untold t here) (in_from_all (TripleStands c) c.triples s.tied.triples t here))

  access_left : ((j : ℕ) → user_name d j ≡ user_name c j)
      → from_list {R = access_cmp} (map (λ e. ((item_place d next e.kind e.id, user_name d e.user), e.level)) c.entries) ≡ (grid_of c).access
  access_left names =
      access_same c d next (λ e here. let stands = in_from_all (EntryStands c) c.entries s.tied.entries e here in
      place_from_thing c d next e.kind e.id (and_parts (gives_access e.kind) (is_given e.level) stands.0).0 (kept e.kind e.id (entry_apart c gone id untold e here) stands.1)) (λ e here. names e.user)

-- ---- an object

module _ (c : Cat) (s : IsSound c) (id : ℕ) (o : ObjectRow) (found : object c id ≡ Some o) (untold : is_told_of c kind.Object id ≡ false) where
  abbrev without : Cat
  without = without_object c id

  thing_kept : (k : ItemKind) (j : ℕ) → (k ≡ kind.Object → j ≡ id → ⊥) → item_there c k j ≡ true → thing_of without (collection_path c) k j ≡ thing_of c (collection_path c) k j
  thing_kept kind.Object j apart has =
      ap (λ (f : Option ObjectRow). object_at (unwrap_or (option_map (object_place (collection_path c)) f) [])) (dropped_other (λ (x : ObjectRow). x.id) c.objects id j (apart refl))
  thing_kept kind.Collection j apart has = refl
  thing_kept kind.Resource j apart has = refl
  thing_kept kind.User j apart has = refl

  pub grid-without_object : grid_of without ≡ record (grid_of c) { objects = remove (grid_of c).objects (object_place (collection_path c) o) }
  grid-without_object =
      let its = in_from_find (λ x. x.id == id) c.objects o found in
      let o_id : o.id ≡ id = eqb-true o.id id its.1 in
      grid-same c without refl (record (grid_of c) { objects = remove (grid_of c).objects (object_place (collection_path c) o) }) (
      same_grid (grid_at without (collection_path c)) (record (grid_of c) { objects = remove (grid_of c).objects (object_place (collection_path c) o) }) refl refl refl refl refl
      (from_list-without path_cmp_total object_cmp (object_place (collection_path c)) (object_of c) path_cmp-IsAntisymmetric c.objects (λ x. not (x.id == id)) (object_place (collection_path c) o) (λ x here.
      tied_so path_cmp_total path_cmp-IsAntisymmetric (object_place (collection_path c) x) (object_place (collection_path c) o) (x.id == id)
      (λ same. eq-eqb x.id id (ap (λ (y : ObjectRow). y.id) (objects_apart c s x o here its.0 same) ∙ o_id))
      (λ e. ap (object_place (collection_path c)) (one_number (λ (y : ObjectRow). y.id) c.objects x o s.cat.objects.ordered here its.0 (eqb-true x.id id e ∙ sym o_id)))
      ∙ not_not (x.id == id)))
      (triples_left c without s (collection_path c) kind.Object id untold thing_kept) (access_left c without s (collection_path c) kind.Object id untold thing_kept (λ j. refl)) refl)

pub grid-no_object : (deltas : List Delta) (c d : Cat) (id : ℕ) (o : ObjectRow) → apply_all empty_cat deltas ≡ Ok c → object c id ≡ Some o → apply c (delta.NoObject id) ≡ Ok d
    → grid_of d ≡ record (grid_of c) { objects = remove (grid_of c).objects (object_place (collection_path c) o) }
grid-no_object deltas c d id o made found e =
    let so = fits_so (may_drop_object c id) 8 (without_object c id) d e in
    ap (λ (x : Cat). grid_of x) (sym so.1)
    ∙ grid-without_object c (sound-made deltas c made) id o found
    (not-true _ (and_parts (has_object c id && not (list_any (λ r. r.object == id) c.replicas)) (not (is_told_of c kind.Object id)) so.0).1)

-- ---- a collection

module _ (c : Cat) (s : IsSound c) (id : ℕ) (fits : may_drop_collection c id ≡ true) where
  abbrev after : Cat
  after = without_collection c id

  after_sound : IsSound after
  after_sound = sound-without_collection c s id fits

  asked : (has_collection c id ≡ true) × (is_told_of c kind.Collection id ≡ false)
  asked =
      let parts = and_parts (has_collection c id && is_empty_collection c id) (not (is_told_of c kind.Collection id)) fits in
      ((and_parts (has_collection c id) (is_empty_collection c id) parts.0).0, not-true _ parts.1)

  -- the others keep their ways
  collection_kept : (j : ℕ) → (j ≡ id → ⊥) → has_collection c j ≡ true → collection_place (collection_path after) j ≡ collection_place (collection_path c) j
  collection_kept j apart has =
      let way = way_of c s.forest j has in
      let past : names_within (length c.collections) after j ≡ Some way.0 =
      within_beside c after id (λ i other. dropped_other (λ (x : CollectionRow). x.id) c.collections id i other)
      (λ x i not_root some is. let its = its_row c i x some in no_child c s.forest s.cat.collections.ordered id fits x its.0 (λ h. not_root (sym its.1 ∙ h)) is) (length c.collections) j way.0 apart way.1 in
      let all : names_up after j ≡ Some way.0 =
      within_all after after_sound.forest.parents (length c.collections) j way.0 past (dropped_has (λ (x : CollectionRow). x.id) c.collections id j apart has) in
      ap (λ (o : Option Path). unwrap_or (option_map reverse o) []) (all ∙ sym way.1)

  object_kept : (o : ObjectRow) → IsIn c.objects o → object_place (collection_path after) o ≡ object_place (collection_path c) o
  object_kept o here = ap (λ (p : Path). p ++ o.name ∷ []) (collection_kept o.collection (no_object c s.forest s.cat.collections.ordered id fits o here) (s.forest.housed o here))

  found_kept : (f : Option ObjectRow) (j : ℕ) → object c j ≡ f → unwrap_or (option_map (object_place (collection_path after)) f) [] ≡ unwrap_or (option_map (object_place (collection_path c)) f) []
  found_kept None j is = refl
  found_kept (Some o) j is = object_kept o (in_from_find (λ x. x.id == j) c.objects o is).0

  left : (k : ItemKind) (j : ℕ) → (k ≡ kind.Collection → j ≡ id → ⊥) → item_there c k j ≡ true → thing_of after (collection_path after) k j ≡ thing_of c (collection_path c) k j
  left kind.Object j apart has = ap object_at (found_kept (object c j) j refl)
  left kind.Collection j apart has = ap collection_at (collection_kept j (apart refl) has)
  left kind.Resource j apart has = refl
  left kind.User j apart has = refl

  pub grid-without_collection : grid_of after ≡ record (grid_of c) { collections = remove (grid_of c).collections (collection_place (collection_path c) id) }
  grid-without_collection =
      same_grid (grid_of after) (record (grid_of c) { collections = remove (grid_of c).collections (collection_place (collection_path c) id) }) refl refl refl refl
      (from_list-same (λ (x : CollectionRow). collection_place (collection_path after) x.id) (λ (x : CollectionRow). collection_place (collection_path c) x.id) (λ (x : CollectionRow). x.inherit)
      (λ (x : CollectionRow). x.inherit) after.collections
      (λ x here. let was = dropped_in (λ (y : CollectionRow). y.id) c.collections id x here in collection_kept x.id was.1 (collection_there c s x was.0)) (λ x here. refl)
      ∙ from_list-without path_cmp_total collection_cmp (λ (x : CollectionRow). collection_place (collection_path c) x.id) (λ (x : CollectionRow). x.inherit) path_cmp-IsAntisymmetric c.collections
      (λ x. not (x.id == id)) (collection_place (collection_path c) id) (λ x here.
      tied_so path_cmp_total path_cmp-IsAntisymmetric (collection_place (collection_path c) x.id) (collection_place (collection_path c) id) (x.id == id)
      (λ same. eq-eqb x.id id (collections_apart c s x.id id (collection_there c s x here) asked.0 same))
      (λ e. ap (collection_place (collection_path c)) (eqb-true x.id id e)) ∙ not_not (x.id == id)))
      (from_list-same (object_place (collection_path after)) (object_place (collection_path c)) (object_of c) (object_of c) c.objects object_kept (λ o here. refl))
      (triples_left c after s (collection_path after) kind.Collection id asked.1 left) (access_left c after s (collection_path after) kind.Collection id asked.1 left (λ j. refl)) refl

pub grid-no_collection : (deltas : List Delta) (c d : Cat) (id : ℕ) → apply_all empty_cat deltas ≡ Ok c → apply c (delta.NoCollection id) ≡ Ok d
    → grid_of d ≡ record (grid_of c) { collections = remove (grid_of c).collections (collection_place (collection_path c) id) }
grid-no_collection deltas c d id made e =
    let so = fits_so (may_drop_collection c id) 6 (without_collection c id) d e in
    ap (λ (x : Cat). grid_of x) (sym so.1) ∙ grid-without_collection c (sound-made deltas c made) id so.0
