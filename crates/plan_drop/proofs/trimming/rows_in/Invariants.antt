use Rattle.std.proofs.Common.{◌≡◌, ◌++◌, IsTrue, drop}
use Rattle.std.specs.Prelude.{filter}
use Rattle.std.specs.List.{AllByRecursion}
use Rattle.grid_model.specs.Rows.{has_resource}
use Rattle.plan_drop.specs.Stored.{is_row_in}
use Rattle.plan_drop.proofs.trimming.rows_in.Given as goal

-- what was found so far and what the other rows give come to what all give
abbrev pub invariant-loop-row : goal.invariant-loop-row
invariant-loop-row l = record {
  found : l.found.items ++ filter (is_row_in l.tables l.upper) (drop l.row-index l.rows) ≡ filter (is_row_in l.tables l.upper) l.rows;
  later : AllByRecursion (λ r. IsTrue (has_resource l.tables r.leaf)) (drop l.row-index l.rows);
}
