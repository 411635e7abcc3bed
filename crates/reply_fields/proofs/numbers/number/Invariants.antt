use Rattle.std.proofs.Common.{◌-◌, length}
use Rattle.reply_fields.proofs.NumberReading.{Taken}
use Rattle.reply_fields.proofs.numbers.number.Given as goal

abbrev pub invariant-loop-len : goal.invariant-loop-len
invariant-loop-len l = Taken l.least l.most l.rest l.len l.value

abbrev pub decreases-loop-len : goal.decreases-loop-len
decreases-loop-len l = length l.initial.rest - l.len
