use Rattle.std.proofs.Common.{◌-◌, length}
use Rattle.reply_fields.proofs.WordReading.{Inside}
use Rattle.reply_fields.proofs.words.quoted_word.Given as goal

abbrev pub invariant-loop-len : goal.invariant-loop-len
invariant-loop-len l = Inside l.rest l.len l.word.items

abbrev pub decreases-loop-len : goal.decreases-loop-len
decreases-loop-len l = length l.initial.rest - l.len
