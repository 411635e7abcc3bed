use Rattle.std.proofs.Common.{take}
use Rattle.req_words.proofs.LineReading.{Leads}
use Rattle.req_words.proofs.line.words.Given as goal

abbrev pub invariant-loop-at : goal.invariant-loop-at
invariant-loop-at l = Leads (take l.at l.line) l.words.items l.place
