use Rattle.std.proofs.Common.{◌≡◌, ◌-◌, ◌≤◌, length, take}
use Rattle.reply_fields.proofs.names.shared_len.Given as goal

abbrev pub invariant-loop-len : goal.invariant-loop-len
invariant-loop-len l = record { in_left : l.len ≤ length l.left; in_right : l.len ≤ length l.right; same : take l.len l.left ≡ take l.len l.right }

abbrev pub decreases-loop-len : goal.decreases-loop-len
decreases-loop-len l = length l.initial.left - l.len
