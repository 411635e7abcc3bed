use Rattle.std.proofs.Common.{◌≡◌, take}
use Rattle.service_run.proofs.copies.copy_calls.Given as goal

-- those so far
abbrev pub invariant-loop-call : goal.invariant-loop-call
invariant-loop-call l = l.copy.items ≡ take l.call-index l.call-items
