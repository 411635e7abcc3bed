use Rattle.std.proofs.Common.{length, drop}
use Rattle.query_parse.proofs.LiteralLemmas.{Reaches}
use Rattle.query_parse.proofs.literals.literal.Given as goal

abbrev pub invariant-pieces : goal.invariant-pieces
invariant-pieces l = Reaches (drop 1 l.text) l.inner.items l.rest

abbrev pub decreases-pieces : goal.decreases-pieces
decreases-pieces l = length l.rest
