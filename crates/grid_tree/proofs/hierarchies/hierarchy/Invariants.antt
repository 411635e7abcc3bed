use Rattle.std.proofs.Common.{◌≡◌, ◌-◌, IsTrue, length}
use Rattle.grid_model.specs.RowGrids.{resource_name}
use Rattle.grid_model.specs.Writable.{is_word}
use Rattle.grid_tree.specs.Lines.{line_up}
use Rattle.grid_tree.proofs.hierarchies.hierarchy.Given as goal

-- with what stands above it the line comes to that of the leaf
abbrev pub invariant-loop-step : goal.invariant-loop-step
invariant-loop-step l = record {
  line : line_up (l._step-end - l._step) l.tables l.current l.line.items ≡ line_up (length l.tables.resources) l.tables l.leaf (resource_name l.tables l.leaf);
  word : IsTrue (is_word l.line.items);
}
