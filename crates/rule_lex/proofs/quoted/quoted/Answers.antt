use Rattle.std.proofs.Common.{refl, sym, subst, arith}
use Rattle.rule_lex.specs.Tokens.{SpellsQuoted, nothing}
use Rattle.std.specs.Prelude.{◌+◌, [], slice_range}
use Rattle.rule_lex.proofs.QuoteLemmas.{closed_at, stuck_at, more_at}
use Rattle.rule_lex.proofs.quoted.quoted.Goals as goal

pub pieces-init : goal.pieces-init
pieces-init c = record {
  within = c.requires.some;
  behind = omega arith;
  quote_is = refl;
  spells = subst (λ v. SpellsQuoted [] v) (sym c.new-value.ensures.items) nothing;
}

pub returns-in-Closed : goal.returns-in-Closed
returns-in-Closed c =
    let so_far = c.pieces.invariant in
    closed_at c.args.rest.now c.pieces.at _ c.pieces.value.items so_far.quote_is c.requires.begins so_far.behind so_far.within so_far.spells c.in-Closed.ensures

pub returns-in-Bad : goal.returns-in-Bad
returns-in-Bad c =
    let so_far = c.pieces.invariant in
    stuck_at c.args.rest.now c.pieces.at _ c.pieces.value.items so_far.quote_is c.requires.begins so_far.behind so_far.within so_far.spells c.in-Bad.len c.in-Bad.ensures

pub pieces-preserved : goal.pieces-preserved
pieces-preserved c =
    let so_far = c.pieces.invariant in
    let more = more_at c.args.rest.now c.pieces.at _ c.pieces.value.items so_far.quote_is c.requires.begins so_far.behind so_far.within so_far.spells c.in-Byte.byte c.in-Byte.len c.in-Byte.ensures in
    record {
      within = more.0;
      behind = omega arith;
      quote_is = refl;
      spells = subst (λ v. SpellsQuoted (slice_range c.args.rest.now 1 (c.pieces.at + c.in-Byte.len)) v) (sym c.in_ok-push-in-Byte.ensures.items) more.1;
    }
