use Rattle.std.proofs.Common.{map, take}
use Rattle.std.specs.Prelude.{flat_map}
use Rattle.grid_model.specs.RowGrids.{grid_of, resource_name}
use Rattle.grid_tree.specs.Names.{AreNamed}
use Rattle.grid_tree.specs.Steps.{below}
use Rattle.grid_tree.proofs.reach.all_below.Given as goal

abbrev pub invariant-loop-id : goal.invariant-loop-id
invariant-loop-id l = AreNamed l.tables l.next.items (flat_map (below (grid_of l.tables).resources) (map (resource_name l.tables) (take l.id-index l.level)))
