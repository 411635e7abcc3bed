use Rattle.std.proofs.Common.{sym, ap, ◌∙◌}
use Rattle.rule_lex.specs.Bytes.{needs_backslash, stands_for_itself}
use Rattle.rule_lex.proofs.QuoteLemmas.{piece_escaped, piece_plain, stuck_escape, stuck_byte}
use Rattle.rule_lex.proofs.quoted.next_piece.Goals as goal

pub returns-then-is_escaped : goal.returns-then-is_escaped
returns-then-is_escaped c = piece_escaped c.args.rest.now c.byte_at-second.result (sym c.byte_at-byte.ensures ∙ c.if-byte-eq92.true) c.byte_at-second.ensures (sym c.if-is_escaped.ensures)

pub returns-else-is_escaped : goal.returns-else-is_escaped
returns-else-is_escaped c = stuck_escape c.args.quote c.args.rest.now c.requires (sym c.byte_at-byte.ensures ∙ c.if-byte-eq92.true) (ap needs_backslash (sym c.byte_at-second.ensures) ∙ sym c.if-is_escaped.ensures)

pub returns-then-is_plain : goal.returns-then-is_plain
returns-then-is_plain c = piece_plain c.args.rest.now c.byte_at-byte.result c.byte_at-byte.ensures (sym c.if-is_plain.ensures)

pub returns-else-is_plain : goal.returns-else-is_plain
returns-else-is_plain c =
    stuck_byte c.args.quote c.args.rest.now (λ e. c.if-byte-quote.false (c.byte_at-byte.ensures ∙ e)) (λ e. c.if-byte-eq92.false (c.byte_at-byte.ensures ∙ e)) (ap stands_for_itself (sym c.byte_at-byte.ensures) ∙ sym c.if-is_plain.ensures)
