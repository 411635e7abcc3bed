use Rattle.std.proofs.Common.{◌≡◌, ℕ, ◌-◌, ◌<◌, ◌≤◌, true, length, get_or}
use Rattle.reply_fields.specs.PrintedDigests.{may_stand_in_digest}
use Rattle.reply_fields.proofs.digests.digest_len.Given as goal

abbrev pub invariant-loop-len : goal.invariant-loop-len
invariant-loop-len l = record { within : l.len ≤ length l.rest; most : l.len ≤ 49; each : (i : ℕ) → i < l.len → may_stand_in_digest i (get_or l.rest i 0) ≡ true }

abbrev pub decreases-loop-len : goal.decreases-loop-len
decreases-loop-len l = 49 - l.len
