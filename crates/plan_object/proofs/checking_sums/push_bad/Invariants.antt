use Rattle.std.proofs.Common.{◌≡◌, ◌++◌, IsTrue, drop}
use Rattle.std.specs.List.{list_all}
use Rattle.grid_journal.specs.Journal.{can_be_kept}
use Rattle.file_laws.specs.Rewriting.{replicas_staled}
use Rattle.plan_object.specs.ChksumPlans.{named_bad}
use Rattle.plan_object.proofs.checking_sums.push_bad.Given as goal

-- what was added so far and what the other replicas give come to what all give
abbrev pub invariant-loop-row : goal.invariant-loop-row
invariant-loop-row l = record {
  bad : l.deltas.items ++ replicas_staled (named_bad l.numbers (drop l.row-index l.rows)) ≡ l.initial.deltas.items ++ replicas_staled (named_bad l.numbers l.rows);
  spelled : IsTrue (list_all can_be_kept l.initial.deltas.items) → IsTrue (list_all can_be_kept l.deltas.items);
}
