use Rattle.std.proofs.Common.{◌≡◌, ℕ, ◌+◌, ◌*◌, ◌≤◌, List, [], Some, length}
use Rattle.grid_outside.specs.Source.{SourceState}
use Rattle.grid_model.specs.RowGrids.{grid_of}
use Rattle.grid_model.specs.declared.deltas.Pending.{Pending}
use Rattle.grid_model.specs.declared.marks.Mark.{Mark}
use Rattle.size_laws.specs.Within.{TakesAtMost}
use Rattle.call_laws.specs.OneCall.{AreKeepable}
use Rattle.undo_run.proofs.Undoings.{AreAmid}
use Rattle.undo_run.proofs.undoing.undo_all.Given as goal

abbrev pub invariant-loop-call : goal.invariant-loop-call
invariant-loop-call g l = record {
  amid : (source : SourceState) (p : Pending) → l.fn.store.cat.pending ≡ Some p → (taken : List Mark)
      × AreAmid g.D.Disk.disk g.A.Ambient.ambient g.P.Plugin.plugin g.K.Sink.sink source (record { outside = l.fn.outside; sink = l.fn.sink }) l.fn.store.cat p
      (record { outside = l.outside; sink = l.sink }) l.left l.command l.store taken;
  keepable : AreKeepable l.command l.left;
  drawn : (each : ℕ) → TakesAtMost (grid_of l.fn.store.cat) each → l.outside.moments + length l.left * each ≤ l.fn.outside.moments + length l.fn.undo * each;
  none : l.fn.undo ≡ [] → (l.left ≡ []) × (l.store ≡ l.fn.store) × (l.outside ≡ l.fn.outside) × (l.sink ≡ l.fn.sink) × (l.command ≡ l.fn.command);
}

abbrev pub decreases-loop-call : goal.decreases-loop-call
decreases-loop-call g l = length l.left
