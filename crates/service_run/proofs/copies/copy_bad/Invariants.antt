use Rattle.std.proofs.Common.{◌≡◌, take}
use Rattle.service_run.proofs.copies.copy_bad.Given as goal

-- those so far
abbrev pub invariant-loop-replica : goal.invariant-loop-replica
invariant-loop-replica l = l.copy.items ≡ take l.replica-index l.replica-items
