use Rattle.std.proofs.Common.{◌≡◌, ◌++◌, IsTrue, drop}
use Rattle.std.specs.List.{list_all}
use Rattle.grid_journal.specs.Journal.{can_be_kept}
use Rattle.grid_journal.specs.Journal.{AreSpelled}
use Rattle.plan_base.specs.Forgetting.{no_triples}
use Rattle.plan_base.proofs.forget.push_no_triples.Given as goal

-- what was added so far and what the other rows give come to what all give
abbrev pub invariant-loop-row : goal.invariant-loop-row
invariant-loop-row l = record {
  changes : l.deltas.items ++ no_triples (drop l.row-index l.rows) ≡ l.initial.deltas.items ++ no_triples l.rows;
  later : AreSpelled (drop l.row-index l.rows);
  spelled : IsTrue (list_all can_be_kept l.initial.deltas.items) → IsTrue (list_all can_be_kept l.deltas.items);
}
