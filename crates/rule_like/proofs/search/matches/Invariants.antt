use Rattle.rule_like.specs.Kinds.{piece_of}
use Rattle.rule_like.proofs.Searching.{Searched, moves_left}
use Rattle.rule_like.proofs.search.matches.Given as goal

abbrev pub invariant-moves : goal.invariant-moves
invariant-moves l = Searched (piece_of l.wildcards) l.text l.pattern l.at l.retry

abbrev pub decreases-moves : goal.decreases-moves
decreases-moves l = moves_left (piece_of l.wildcards) l.text l.pattern l.at l.retry
