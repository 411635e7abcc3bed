use Rattle.std.proofs.Common.{◌-◌, length}
use Rattle.reply_reader.proofs.BadLists.{ReadBads}
use Rattle.reply_reader.proofs.bad_replicas.bad_list.Given as goal

abbrev pub invariant-loop-end : goal.invariant-loop-end
invariant-loop-end l = ReadBads l.before l.text l.at l.found.items l.end l.place

abbrev pub decreases-loop-end : goal.decreases-loop-end
decreases-loop-end l = length l.text - l.place
