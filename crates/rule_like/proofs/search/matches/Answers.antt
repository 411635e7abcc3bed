use Rattle.std.proofs.Common.{refl}
use Rattle.rule_like.specs.Kinds.{piece_of}
use Rattle.rule_like.proofs.Searching.{after_byte, after_wildcard, found, fewer_after_wildcard}
use Rattle.rule_like.proofs.search.matches.Goals as goal

pub returns-in-Done : goal.returns-in-Done
returns-in-Done c =
    (λ _. found (piece_of c.args.wildcards) c.args.text.now c.args.pattern.now c.moves.at c.moves.retry c.moves.invariant c.in-Done.ensures.0 c.in-Done.ensures.1, λ _. refl)

pub moves-smaller-in-PastWildcard : goal.moves-smaller-in-PastWildcard
moves-smaller-in-PastWildcard c =
    fewer_after_wildcard (piece_of c.args.wildcards) c.args.text.now c.args.pattern.now c.moves.at _ c.moves.retry c.moves.invariant c.in-PastWildcard.ensures.0 refl refl

pub moves-preserved-in-PastWildcard : goal.moves-preserved-in-PastWildcard
moves-preserved-in-PastWildcard c =
    after_wildcard (piece_of c.args.wildcards) c.args.text.now c.args.pattern.now c.moves.at _ c.moves.retry c.moves.invariant c.in-PastWildcard.ensures.0 c.in-PastWildcard.ensures.1 refl refl

pub moves-preserved-in-PastByte : goal.moves-preserved-in-PastByte
moves-preserved-in-PastByte c =
    let moved = c.in-PastByte.ensures in
    after_byte (piece_of c.args.wildcards) c.args.text.now c.args.pattern.now c.moves.at _ c.moves.retry c.moves.invariant moved.0 moved.1 moved.2 refl refl
