use Rattle.std.proofs.Common.{◌≡◌, ◌++◌, drop}
use Rattle.plan_object.specs.ChksumPlans.{read_files}
use Rattle.plan_object.proofs.checking_sums.readable_files.Given as goal

-- what was found so far and what the other replicas give come to what all give
abbrev pub invariant-loop-row : goal.invariant-loop-row
invariant-loop-row l = l.files.items ++ read_files l.tables (drop l.row-index l.rows) ≡ read_files l.tables l.rows
