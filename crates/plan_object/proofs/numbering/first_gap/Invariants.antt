use Rattle.std.proofs.Common.{◌≡◌, ◌-◌, length}
use Rattle.plan_object.specs.LeafNumbers.{first_gap}
use Rattle.plan_object.proofs.numbering.first_gap.Given as goal

-- the numbers below are taken
abbrev pub invariant-loop-number : goal.invariant-loop-number
invariant-loop-number l = first_gap (length l.taken - l.number) l.taken l.number ≡ first_gap (length l.taken) l.taken 0
