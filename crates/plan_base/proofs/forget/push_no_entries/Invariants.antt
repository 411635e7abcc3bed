use Rattle.std.proofs.Common.{◌≡◌, ◌++◌, IsTrue, drop}
use Rattle.std.specs.List.{list_all, AllByRecursion}
use Rattle.grid_model.specs.Applying.{gives_access}
use Rattle.grid_journal.specs.Journal.{can_be_kept}
use Rattle.plan_base.specs.Forgetting.{no_entries}
use Rattle.plan_base.proofs.forget.push_no_entries.Given as goal

-- what was added so far and what the other rows give come to what all give
abbrev pub invariant-loop-row : goal.invariant-loop-row
invariant-loop-row l = record {
  changes : l.deltas.items ++ no_entries (drop l.row-index l.rows) ≡ l.initial.deltas.items ++ no_entries l.rows;
  later : AllByRecursion (λ e. IsTrue (gives_access e.kind)) (drop l.row-index l.rows);
  spelled : IsTrue (list_all can_be_kept l.initial.deltas.items) → IsTrue (list_all can_be_kept l.deltas.items);
}
