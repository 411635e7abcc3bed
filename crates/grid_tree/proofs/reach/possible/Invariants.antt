use Rattle.std.proofs.Common.{◌≡◌, ◌-◌, suc, map, IsTrue}
use Rattle.std.specs.Prelude.{flat_map}
use Rattle.std.specs.List.{AllByRecursion}
use Rattle.grid_model.specs.RowGrids.{grid_of, resource_name}
use Rattle.grid_model.specs.Rows.{has_resource}
use Rattle.grid_model.specs.Trees.{possible, possible_from}
use Rattle.grid_tree.proofs.reach.possible.Given as goal

abbrev pub invariant-loop-step : goal.invariant-loop-step
invariant-loop-step l = record {
  there : AllByRecursion (λ id. IsTrue (has_resource l.tables id)) l.level.items;
  same : flat_map (possible_from (suc (l._step-end - l._step)) (grid_of l.tables).resources) (map (resource_name l.tables) l.level.items) ≡ possible (grid_of l.tables).resources (resource_name l.tables l.resource);
}
