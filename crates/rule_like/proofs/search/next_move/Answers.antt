use Rattle.std.proofs.Common.{arith}
use Rattle.rule_like.specs.Kinds.{piece_of}
use Rattle.rule_like.proofs.Searching.{stuck_at_end, stuck_at_byte}
use Rattle.rule_like.proofs.search.next_move.Goals as goal

pub returns-else-at-text : goal.returns-else-at-text
returns-else-at-text c = stuck_at_end (piece_of c.args.wildcards) c.args.text.now c.args.pattern.now c.args.at (omega arith) c.if-at-pattern.true

pub returns-in-Byte-2 : goal.returns-in-Byte-2
returns-in-Byte-2 c =
    stuck_at_byte (piece_of c.args.wildcards) c.args.text.now c.args.pattern.now c.args.at c.in-Byte.byte (omega arith) (omega arith) c.in-Byte.ensures c.if-byte-text.false
