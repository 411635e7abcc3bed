use Rattle.std.proofs.Common.{◌≡◌, ◌+◌, ◌++◌, ◌≤◌, IsTrue, drop, length, map}
use Rattle.std.specs.List.{list_all}
use Rattle.grid_journal.specs.Journal.{can_be_kept}
use Rattle.file_laws.specs.Rewriting.{replicas_placed}
use Rattle.plan_object.specs.LeafNumbers.{with_numbers}
use Rattle.plan_object.specs.PutPlans.{law_target}
use Rattle.plan_object.proofs.changes.push_replicas.Given as goal

-- what was added so far and what the other targets give come to what all give
abbrev pub invariant-loop-target : goal.invariant-loop-target
invariant-loop-target l = record {
  next : l.vault ≡ l.first + l.target-index;
  few : length l.taken.items ≤ length l.initial.taken.items + l.target-index;
  replicas : l.deltas.items ++ replicas_placed l.object l.vault (with_numbers l.taken.items (map law_target (drop l.target-index l.targets)))
      ≡ l.initial.deltas.items ++ replicas_placed l.object l.first (with_numbers l.initial.taken.items (map law_target l.targets));
  spelled : IsTrue (list_all can_be_kept l.initial.deltas.items) → IsTrue (list_all can_be_kept l.deltas.items);
}
