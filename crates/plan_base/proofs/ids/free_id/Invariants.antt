use Rattle.std.proofs.Common.{ℕ, ◌+◌, ◌<◌, ◌≤◌, get_or}
use Rattle.plan_base.proofs.ids.free_id.Given as goal

abbrev pub invariant-loop-id : goal.invariant-loop-id
invariant-loop-id l = record {
  some : 0 < l.next;
  below : (k : ℕ) → k < l.id-index → get_or l.ids k 0 < l.next;
  close : l.next ≤ l.id-index + 1;
}
