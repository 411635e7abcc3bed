-- The grid once a collection was put, where it is known what that makes of the paths.
use Rattle.std.proofs.Common.{◌≡◌, ◌==◌, ℕ, Bool, true, [], Option, refl, sym, ap, ◌∙◌, eq-eqb}
use Rattle.std.specs.Prelude.{map, option_map, unwrap_or}
use Rattle.std.specs.Ordering.{is_eq}
use Rattle.std.specs.Cmp.{Equal-is}
use Rattle.grid_model.specs.Maps.{Map, put, from_list, rekey}
use Rattle.grid_model.specs.Moves.{moved_thing, with_paths}
use Rattle.grid_model.specs.Names.{Path, path_cmp}
use Rattle.grid_model.specs.Grid.{object_at, collection_at}
use Rattle.grid_model.specs.Rows.{Cat, has_collection, item_there, collection_cmp}
use Rattle.grid_model.specs.RowPaths.{collection_path}
use Rattle.grid_model.specs.RowGrids.{grid_of, collection_place, object_place, thing_of, object_of}
use Rattle.grid_model.specs.Applying.{collection_fits}
use Rattle.grid_model.specs.declared.deltas.CollectionRow.{CollectionRow}
use Rattle.grid_model.specs.declared.deltas.ObjectRow.{ObjectRow}
use Rattle.grid_model.specs.declared.grid.ItemKind.{ItemKind}
use Rattle.grid_model.specs.declared.grid.ItemKind.TheVariants as kind
use Rattle.grid_model.proofs.Comparing.{path_cmp_total, path_cmp-IsAntisymmetric}
use Rattle.tables_laws.proofs.Rows.{IsIn, any_from_in, new_in_with_row}
use Rattle.tables_laws.proofs.Numbered.{same_number, equal_number, one_number, put_has}
use Rattle.tables_laws.proofs.Forest.{with_collection}
use Rattle.tables_laws.proofs.TableMaps.{tied_so, from_list-with_row}
use Rattle.tables_laws.proofs.Rekeyed.{from_list-rekey}
use Rattle.tables_laws.proofs.MovedThings.{triples_moved, access_moved}
use Rattle.tables_laws.proofs.Places.{collection_there, collections_apart, objects_apart, row_there}
use Rattle.tables_laws.proofs.Sound.{IsSound, sound-with_collection}
use Rattle.tables_laws.proofs.Frame.{same_grid}

module _ (c : Cat) (s : IsSound c) (r : CollectionRow) (fits : collection_fits c r ≡ true) where
  abbrev after : Cat
  after = with_collection c r

  sound : IsSound after
  sound = sound-with_collection c s r fits

  abbrev place_after : ℕ → Path
  place_after id = collection_place (collection_path after) id

  stays : (id : ℕ) → has_collection c id ≡ true → has_collection after id ≡ true
  stays id has = put_has (λ (x : CollectionRow). x.id) c.collections r id has

  new_has : has_collection after r.id ≡ true
  new_has = any_from_in (λ x. x.id == r.id) after.collections r (new_in_with_row collection_cmp c.collections r) (eq-eqb r.id r.id refl)

  module _ (at : Path → Path) (places : (id : ℕ) → has_collection c id ≡ true → place_after id ≡ at (collection_place (collection_path c) id))
      (objects : (o : ObjectRow) → IsIn c.objects o → object_place (collection_path after) o ≡ at (object_place (collection_path c) o)) where
    things : (k : ItemKind) (id : ℕ) → item_there c k id ≡ true → thing_of after (collection_path after) k id ≡ moved_thing at (thing_of c (collection_path c) k id)
    things kind.Object id has =
        let row = row_there (λ (o : ObjectRow). o.id) c.objects id has in
        ap (λ (f : Option ObjectRow). object_at (unwrap_or (option_map (object_place (collection_path after)) f) [])) row.3 ∙ ap object_at (objects row.0 row.1)
        ∙ ap (λ (f : Option ObjectRow). object_at (at (unwrap_or (option_map (object_place (collection_path c)) f) []))) (sym row.3)
    things kind.Collection id has = ap collection_at (places id has)
    things kind.Resource id has = refl
    things kind.User id has = refl

    abbrev grown : Map path_cmp Bool
    grown = put (rekey at (grid_of c).collections) (place_after r.id) r.inherit

    collections_grown : from_list {R = path_cmp} (map (λ x. (place_after x.id, x.inherit)) after.collections) ≡ grown
    collections_grown =
        from_list-with_row path_cmp_total collection_cmp (λ (x : CollectionRow). place_after x.id) (λ (x : CollectionRow). x.inherit) path_cmp-IsAntisymmetric c.collections r (λ x here.
        tied_so path_cmp_total path_cmp-IsAntisymmetric (place_after x.id) (place_after r.id) (is_eq (collection_cmp r x))
        (λ same. (Equal-is (collection_cmp r x)).1 (equal_number r.id x.id (sym (collections_apart after sound x.id r.id (stays x.id (collection_there c s x here)) new_has same))))
        (λ e. ap place_after (sym (same_number r.id x.id ((Equal-is (collection_cmp r x)).0 e)))))
        ∙ ap (λ (m : Map path_cmp Bool). put m (place_after r.id) r.inherit)
        (from_list-rekey path_cmp_total path_cmp-IsAntisymmetric (λ (x : CollectionRow). collection_place (collection_path c) x.id) (λ (x : CollectionRow). place_after x.id) (λ (x : CollectionRow). x.inherit) at
        c.collections (λ x here. places x.id (collection_there c s x here))
        (λ x y here there same. one_number (λ (z : CollectionRow). z.id) c.collections x y s.cat.collections.ordered here there
        (collections_apart after sound x.id y.id (stays x.id (collection_there c s x here)) (stays y.id (collection_there c s y there)) same)))

    -- each path is moved, and then the collection is put
    pub grid-put_collection : grid_of after ≡ record (with_paths at (grid_of c)) { collections = grown }
    grid-put_collection =
        same_grid (grid_of after) (record (with_paths at (grid_of c)) { collections = grown }) refl refl refl refl collections_grown
        (from_list-rekey path_cmp_total path_cmp-IsAntisymmetric (object_place (collection_path c)) (object_place (collection_path after)) (object_of c) at c.objects objects (objects_apart after sound))
        (triples_moved c after s sound at sound.tied.triples sound.tied.entries (λ id. refl) things) (access_moved c after s sound at sound.tied.triples sound.tied.entries (λ id. refl) things) refl
