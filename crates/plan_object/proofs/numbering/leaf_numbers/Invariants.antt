use Rattle.std.proofs.Common.{◌≡◌, ◌++◌, drop, map}
use Rattle.plan_object.specs.LeafNumbers.{leaf_number_of}
use Rattle.plan_object.proofs.numbering.leaf_numbers.Given as goal

-- the numbers so far and those of the other replicas come to those of all
abbrev pub invariant-loop-row : goal.invariant-loop-row
invariant-loop-row l = l.taken.items ++ map leaf_number_of (drop l.row-index l.rows) ≡ map leaf_number_of l.rows
