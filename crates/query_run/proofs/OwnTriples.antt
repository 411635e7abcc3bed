-- What is said of an object in the grid, by its rows.
use Rattle.std.proofs.Common.{◌≡◌, [], Option, map, ap}
use Rattle.std.specs.Prelude.{option_map, unwrap_or}
use Rattle.grid_model.specs.Grid.{object_at}
use Rattle.grid_model.specs.Listings.{triples_at}
use Rattle.grid_model.specs.Rows.{Cat, triples_of}
use Rattle.grid_model.specs.RowPaths.{collection_path}
use Rattle.grid_model.specs.RowGrids.{grid_of, object_place, triple_of}
use Rattle.grid_model.specs.declared.deltas.Item.TheVariants as item
use Rattle.grid_model.specs.declared.deltas.ObjectRow.{ObjectRow}
use Rattle.grid_model.specs.declared.grid.ItemKind.TheVariants as kind
use Rattle.tables_laws.proofs.Rows.{IsIn}
use Rattle.tables_laws.proofs.Places.{object_found, object_there}
use Rattle.tables_laws.proofs.Sound.{IsSound}
use Rattle.plan_meta.specs.Things.{IsItemOf}
use Rattle.plan_meta.proofs.ShownTriples.{triples_are}

pub own_triples : (c : Cat) → IsSound c → (o : ObjectRow) → IsIn c.objects o
    → triples_at (grid_of c) (object_at (object_place (collection_path c) o)) ≡ map (triple_of c (collection_path c)) (triples_of c kind.Object o.id)
own_triples c s o here =
    let its : IsItemOf c (object_at (object_place (collection_path c) o)) (item.Object o.id) = record {
      there = object_there c s o here;
      thing_is = ap (λ (x : Option ObjectRow). object_at (unwrap_or (option_map (object_place (collection_path c)) x) [])) (object_found c s o here);
    } in
    triples_are c s (object_at (object_place (collection_path c) o)) (item.Object o.id) its
