-- The object at a path, in the grid and by the rows.
use Rattle.std.proofs.Common.{◌≡◌, ℕ, true, [], Option, Some, None, refl, sym, ap, ◌∙◌}
use Rattle.std.specs.Prelude.{find, option_map, unwrap_or}
use Rattle.grid_model.specs.Maps.{get}
use Rattle.grid_model.specs.Names.{Path}
use Rattle.grid_model.specs.Rows.{Cat, has_object, object}
use Rattle.grid_model.specs.RowPaths.{collection_path, is_path_of, object_at, object_path}
use Rattle.grid_model.specs.RowGrids.{grid_of, object_of, object_place}
use Rattle.grid_model.specs.Applying.{IsMade}
use Rattle.grid_model.specs.declared.deltas.Item.TheVariants as item
use Rattle.grid_model.specs.declared.deltas.ObjectRow.{ObjectRow}
use Rattle.tables_laws.proofs.LookUps.{get-objects, get-object_at}
use Rattle.tables_laws.proofs.Places.{row_there}
use Rattle.tables_laws.proofs.Rows.{IsIn}
use Rattle.plan_base.proofs.AtPaths.{placed, sound_of}

pub nothing_there : (c : Cat) → IsMade c → (p : Path) → None ≡ object_at c p → get (grid_of c).objects p ≡ None
nothing_there c made p none = get-objects c (sound_of c made) p ∙ ap (option_map (object_of c)) (by (find (λ r. is_path_of (object_path c r) p) c.objects) none)
  where
    by : (f : Option ObjectRow) → None ≡ option_map (λ (r : ObjectRow). r.id) f → f ≡ None
    by None e = refl
    by (Some r) e = absurd cc

-- the object with this id is at the path
pub record StandsAt (c : Cat) (p : Path) (id : ℕ) : Type 0 where
  pub row : ObjectRow
  pub here : IsIn c.objects row
  pub id_is : row.id ≡ id
  pub found : object c id ≡ Some row
  pub there : has_object c id ≡ true
  pub place : object_place (collection_path c) row ≡ p
  pub gives : get (grid_of c).objects p ≡ Some (object_of c row)

pub stands_there : (c : Cat) → IsMade c → (p : Path) (id : ℕ) → Some id ≡ object_at c p → StandsAt c p id
stands_there c made p id at =
    let its = placed c made p (item.Object id) (sym at) in
    let row = row_there (λ (o : ObjectRow). o.id) c.objects id its.there in
    record {
      row = row.0;
      here = row.1;
      id_is = row.2;
      found = row.3;
      there = its.there;
      place = ap (λ (o : Option ObjectRow). unwrap_or (option_map (object_place (collection_path c)) o) []) (sym row.3) ∙ its.place;
      gives = get-object_at c (sound_of c made) p id row.0 (sym at) row.3;
    }
