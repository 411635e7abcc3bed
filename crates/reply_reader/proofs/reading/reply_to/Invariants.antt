use Rattle.std.proofs.Common.{◌-◌, length}
use Rattle.reply_reader.specs.Parts.{reply_so_far}
use Rattle.reply_reader.proofs.ReplyReading.{ReadLines}
use Rattle.reply_reader.proofs.reading.reply_to.Given as goal

abbrev pub invariant-lines : goal.invariant-lines
invariant-lines l = ReadLines l.number l.text (reply_so_far l.parts) l.phase l.place

abbrev pub decreases-lines : goal.decreases-lines
decreases-lines l = length l.initial.text - l.place
