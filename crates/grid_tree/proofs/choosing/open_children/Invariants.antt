use Rattle.std.proofs.Common.{map, take}
use Rattle.std.specs.Prelude.{filter}
use Rattle.grid_model.specs.RowGrids.{grid_of, resource_name}
use Rattle.grid_model.specs.Trees.{is_any, possible}
use Rattle.grid_tree.specs.Names.{AreNamed}
use Rattle.grid_tree.proofs.choosing.open_children.Given as goal

abbrev pub invariant-loop-kid : goal.invariant-loop-kid
invariant-loop-kid l = AreNamed l.tables l.open.items (filter (λ kid. is_any (possible (grid_of l.tables).resources kid)) (map (resource_name l.tables) (take l.kid-index l.kid-items)))
