use Rattle.std.proofs.Common.{◌≡◌, ◌+◌, ◌++◌, IsTrue, drop, map}
use Rattle.std.specs.List.{list_all}
use Rattle.grid_journal.specs.Journal.{can_be_kept}
use Rattle.file_laws.specs.Puts.{orphans_from}
use Rattle.plan_object.specs.PutPlans.{law_target}
use Rattle.plan_object.proofs.changes.push_orphans.Given as goal

-- what was added so far and what the other targets give come to what all give
abbrev pub invariant-loop-target : goal.invariant-loop-target
invariant-loop-target l = record {
  next : l.vault ≡ l.first + l.target-index;
  orphans : l.deltas.items ++ orphans_from l.vault (map law_target (drop l.target-index l.targets)) ≡ l.initial.deltas.items ++ orphans_from l.first (map law_target l.targets);
  spelled : IsTrue (list_all can_be_kept l.initial.deltas.items) → IsTrue (list_all can_be_kept l.deltas.items);
}
