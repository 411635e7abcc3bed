use Rattle.std.proofs.Common.{◌≡◌, IsTrue, drop}
use Rattle.std.specs.Prelude.{◌&&◌, not}
use Rattle.std.specs.List.{AllByRecursion, list_any}
use Rattle.grid_model.specs.Rows.{has_resource}
use Rattle.plan_drop.specs.Stored.{is_row_in}
use Rattle.plan_drop.proofs.trimming.leaves_good.Given as goal

-- none was found so far
abbrev pub invariant-loop-row : goal.invariant-loop-row
invariant-loop-row l = record {
  others : list_any (λ r. r.good && not (is_row_in l.tables l.upper r)) (drop l.row-index l.rows) ≡ list_any (λ r. r.good && not (is_row_in l.tables l.upper r)) l.rows;
  later : AllByRecursion (λ r. IsTrue (has_resource l.tables r.leaf)) (drop l.row-index l.rows);
}
