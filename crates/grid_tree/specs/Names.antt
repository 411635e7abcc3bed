-- Resources by their ids and by their names.
use Rattle.std.specs.Prelude.{◌≡◌, ℕ, List, map, IsTrue}
use Rattle.std.specs.List.{AllByRecursion}
use Rattle.grid_model.specs.Names.{Text}
use Rattle.grid_model.specs.Rows.{Cat, has_resource}
use Rattle.grid_model.specs.RowGrids.{resource_name}

-- the ids are those of resources, whose names these are, in their order
pub record AreNamed (c : Cat) (ids : List ℕ) (names : List Text) : Type 0 where
  pub there : AllByRecursion (λ id. IsTrue (has_resource c id)) ids
  pub named : map (resource_name c) ids ≡ names
