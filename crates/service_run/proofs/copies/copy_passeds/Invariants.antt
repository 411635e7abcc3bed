use Rattle.std.proofs.Common.{◌≡◌, take}
use Rattle.service_run.proofs.copies.copy_passeds.Given as goal

-- those so far
abbrev pub invariant-loop-passed : goal.invariant-loop-passed
invariant-loop-passed l = l.copy.items ≡ take l.passed-index l.passed-items
