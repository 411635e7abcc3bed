use Rattle.std.proofs.Common.{map, take, IsTrue}
use Rattle.std.specs.Prelude.{flat_map}
use Rattle.std.specs.List.{AllByRecursion}
use Rattle.grid_model.specs.Applying.{is_leaf}
use Rattle.grid_model.specs.RowGrids.{grid_of, resource_name}
use Rattle.grid_model.specs.Trees.{possible_from}
use Rattle.grid_tree.specs.Names.{AreNamed}
use Rattle.grid_tree.proofs.reach.open_leaves.Given as goal

abbrev pub invariant-loop-id : goal.invariant-loop-id
invariant-loop-id l = record {
  named : AreNamed l.tables l.leaves.items (flat_map (possible_from 1 (grid_of l.tables).resources) (map (resource_name l.tables) (take l.id-index l.level)));
  all : AllByRecursion (λ id. IsTrue (is_leaf l.tables id)) l.leaves.items;
}
