use Rattle.std.proofs.Common.{map, take}
use Rattle.std.specs.Prelude.{flat_map}
use Rattle.grid_model.specs.RowGrids.{grid_of}
use Rattle.grid_tree.specs.Spots.{AreSpots, spot_name}
use Rattle.grid_tree.specs.Steps.{spots}
use Rattle.grid_tree.proofs.choosing.all_spots.Given as goal

abbrev pub invariant-loop-spot : goal.invariant-loop-spot
invariant-loop-spot l = AreSpots l.tables l.next.items (flat_map (spots (grid_of l.tables).resources) (map (spot_name l.tables) (take l.spot-index l.level)))
