use Rattle.std.proofs.Common.{◌≡◌, ◌-◌, suc, map, IsTrue}
use Rattle.std.specs.Prelude.{flat_map}
use Rattle.std.specs.List.{AllByRecursion}
use Rattle.grid_model.specs.RowGrids.{grid_of, resource_name}
use Rattle.grid_model.specs.Rows.{has_resource}
use Rattle.grid_model.specs.Trees.{targets}
use Rattle.grid_tree.specs.Spots.{spot_name}
use Rattle.grid_tree.proofs.Levels.{at}
use Rattle.grid_tree.proofs.choosing.targets.Given as goal

abbrev pub invariant-loop-step : goal.invariant-loop-step
invariant-loop-step l = record {
  there : AllByRecursion (λ s. IsTrue (has_resource l.tables s.id)) l.level.items;
  same : flat_map (at (grid_of l.tables).resources (suc (l._step-end - l._step))) (map (spot_name l.tables) l.level.items) ≡ targets (grid_of l.tables).resources (resource_name l.tables l.resource) l.word;
}
