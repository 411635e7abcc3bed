use Rattle.std.proofs.Common.{map}
use Rattle.reply_fields.proofs.NameReading.{Tried}
use Rattle.reply_fields.proofs.names.one_of.Given as goal

abbrev pub invariant-loop-index : goal.invariant-loop-index
invariant-loop-index l = Tried l.rest (map (λ name. name.now) l.names) l.index l.furthest
