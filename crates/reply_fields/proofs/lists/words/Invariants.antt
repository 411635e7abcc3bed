use Rattle.std.proofs.Common.{◌-◌, length}
use Rattle.reply_fields.proofs.ListReading.{GoesOnWith}
use Rattle.reply_fields.proofs.lists.words.Given as goal

abbrev pub invariant-loop-read : goal.invariant-loop-read
invariant-loop-read l = GoesOnWith l.text l.fn.at l.place l.words.items

abbrev pub decreases-loop-read : goal.decreases-loop-read
decreases-loop-read l = length l.text - l.place
