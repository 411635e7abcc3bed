use Rattle.std.proofs.Common.{◌≡◌, ◌++◌, IsTrue, drop}
use Rattle.std.specs.List.{list_all}
use Rattle.grid_journal.specs.Journal.{can_be_kept}
use Rattle.file_laws.specs.Rewriting.{replicas_dropped}
use Rattle.plan_object.specs.OverPlans.{replaced}
use Rattle.plan_object.proofs.rewriting.push_replaced.Given as goal

-- what was added so far and what the other replicas give come to what all give
abbrev pub invariant-loop-row : goal.invariant-loop-row
invariant-loop-row l = record {
  replaced : l.deltas.items ++ replicas_dropped (replaced l.targets (drop l.row-index l.rows)) ≡ l.initial.deltas.items ++ replicas_dropped (replaced l.targets l.rows);
  spelled : IsTrue (list_all can_be_kept l.initial.deltas.items) → IsTrue (list_all can_be_kept l.deltas.items);
}
