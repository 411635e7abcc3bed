use Rattle.std.proofs.Common.{◌≡◌, ◌==◌, ◌++◌, IsTrue, drop}
use Rattle.std.specs.Prelude.{filter, not}
use Rattle.std.specs.List.{list_all}
use Rattle.grid_journal.specs.Journal.{can_be_kept}
use Rattle.plan_base.specs.NewItems.{handed_to}
use Rattle.plan_base.proofs.entries.push_handed.Given as goal

-- what was handed so far and what the other entries give come to what all give
abbrev pub invariant-loop-row : goal.invariant-loop-row
invariant-loop-row l = record {
  entries : l.deltas.items ++ handed_to l.kind l.id (filter (λ e. not (e.user == l.user)) (drop l.row-index l.rows)) ≡ l.initial.deltas.items ++ handed_to l.kind l.id (filter (λ e. not (e.user == l.user)) l.rows);
  spelled : IsTrue (list_all can_be_kept l.initial.deltas.items) → IsTrue (list_all can_be_kept l.deltas.items);
}
