use Rattle.std.proofs.Common.{drop, subst, sym}
use Rattle.grid_model.specs.QueryTokens.{literal, Front}
use Rattle.query_parse.proofs.FrontLemmas.{no_literal, first_and_rest, literal_closed}
use Rattle.query_parse.proofs.LiteralLemmas.{Reaches, reaches_more}
use Rattle.query_parse.proofs.literals.literal.Goals as goal

pub returns-in-Closed : goal.returns-in-Closed
returns-in-Closed c =
    let text = c.args.text.now in
    subst (λ inner. Front text (literal inner) c.in-Closed.behind.now) (sym c.from_vec.ensures)
    (literal_closed text c.pieces.inner.items c.pieces.rest.now c.in-Closed.behind.now c.requires.some c.requires.begins c.pieces.invariant c.in-Closed.ensures.0 c.in-Closed.ensures.1)

pub pieces-preserved : goal.pieces-preserved
pieces-preserved c =
    subst (λ inner. Reaches (drop 1 c.args.text.now) inner c.in-Byte.behind.now) (sym c.in_ok-push-in-Byte.ensures.items)
    (reaches_more c.in-Byte.byte c.pieces.invariant c.in-Byte.ensures)

pub returns-in-Open : goal.returns-in-Open
returns-in-Open c = λ t rest.
    no_literal c.args.text.now c.pieces.inner.items (drop 1 c.args.text.now) (first_and_rest c.args.text.now 0x27 c.requires.some c.requires.begins)
    (subst (λ left. Reaches (drop 1 c.args.text.now) c.pieces.inner.items left) c.in-Open.ensures c.pieces.invariant) t rest
