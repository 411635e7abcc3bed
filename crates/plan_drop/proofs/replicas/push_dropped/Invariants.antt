use Rattle.std.proofs.Common.{◌≡◌, ◌++◌, IsTrue, drop}
use Rattle.std.specs.List.{list_all}
use Rattle.file_laws.specs.Rewriting.{replicas_dropped}
use Rattle.grid_journal.specs.Journal.{can_be_kept}
use Rattle.plan_drop.specs.Stored.{stored_rows}
use Rattle.plan_drop.proofs.replicas.push_dropped.Given as goal

-- what was added so far and what the other rows give come to what all give
abbrev pub invariant-loop-row : goal.invariant-loop-row
invariant-loop-row l = record {
  changes : l.deltas.items ++ replicas_dropped (stored_rows l.tables (drop l.row-index l.rows)) ≡ l.initial.deltas.items ++ replicas_dropped (stored_rows l.tables l.rows);
  spelled : IsTrue (list_all can_be_kept l.initial.deltas.items) → IsTrue (list_all can_be_kept l.deltas.items);
}
