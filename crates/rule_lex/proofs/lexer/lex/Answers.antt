use Rattle.std.proofs.Common.{sym, ap, subst, ◌∙◌, map, arith}
use Rattle.std.proofs.lemmas.List.{map-append}
use Rattle.rule_lex.specs.Seen.{rule_token_of, meaning_of}
use Rattle.rule_lex.specs.Places.{IsSourceRefusedAt}
use Rattle.rule_lex.proofs.LexLemmas.{Reached, reached_start, reached_token, reached_bad, reached_end, some_front}
use Rattle.rule_lex.proofs.OneReading.{one_list}
use Rattle.rule_lex.proofs.lexer.lex.Goals as goal

pub loop-at-init : goal.loop-at-init
loop-at-init c = record {
  within = c.skip-at.ensures.within;
  ends = c.skip-at.ensures.ends;
  reached = subst (λ v. Reached c.args.text.now c.skip-at.result (map rule_token_of v)) (sym c.new-tokens.ensures.items) (reached_start c.args.text.now c.skip-at.result c.skip-at.ensures.skips);
}

pub loop-at-smaller : goal.loop-at-smaller
loop-at-smaller c =
    let front = rw c.in-Token.is at c.in_ok-len.ensures in
    let some = some_front c.args.text.now c.loop-at.at c.in-Token.len (meaning_of c.in-Token.value) c.loop-at.invariant.within front in
    omega (arith, some.0, some.1, c.skip-at-in-Token.ensures.from)

pub loop-at-preserved : goal.loop-at-preserved
loop-at-preserved c =
    let front = rw c.in-Token.is at c.in_ok-len.ensures in
    let reached = reached_token c.args.text.now c.loop-at.at c.in-Token.len (meaning_of c.in-Token.value) c.loop-at.invariant.within (map rule_token_of c.loop-at.tokens.items) c.skip-at-in-Token.result c.loop-at.invariant.reached front c.skip-at-in-Token.ensures.skips in
    record {
      within = c.skip-at-in-Token.ensures.within;
      ends = c.skip-at-in-Token.ensures.ends;
      reached = subst (λ x. Reached c.args.text.now c.skip-at-in-Token.result x) (sym (ap (map rule_token_of) c.in_ok-push-in-Token.ensures.items ∙ map-append rule_token_of c.loop-at.tokens.items _)) reached;
    }

pub returns-in-Bad-clause-bad_token : goal.returns-in-Bad-clause-bad_token
returns-in-Bad-clause-bad_token c = λ at e.
    let no_front = rw c.in-Bad.is at c.in_ok-len.ensures in
    let refused = reached_bad c.args.text.now c.loop-at.at c.in-Bad.len (map rule_token_of c.loop-at.tokens.items) c.loop-at.invariant.reached c.loop-at-test.true (c.loop-at.invariant.ends c.loop-at-test.true) no_front in
    subst (λ k. IsSourceRefusedAt c.args.text.now k) (cc) refused

pub returns-in-Bad-clause-only : goal.returns-in-Bad-clause-only
returns-in-Bad-clause-only c = λ all spelled.
    let no_front = rw c.in-Bad.is at c.in_ok-len.ensures in
    let refused = reached_bad c.args.text.now c.loop-at.at c.in-Bad.len (map rule_token_of c.loop-at.tokens.items) c.loop-at.invariant.reached c.loop-at-test.true (c.loop-at.invariant.ends c.loop-at-test.true) no_front in
    absurd (refused.spells_nothing all spelled)

pub returns-clause-tokens : goal.returns-clause-tokens
returns-clause-tokens c = reached_end c.args.text.now c.loop-at.at (map rule_token_of c.loop-at.tokens.items) c.loop-at.invariant.reached (omega arith)

pub returns-clause-only : goal.returns-clause-only
returns-clause-only c = λ all spelled.
    one_list spelled (reached_end c.args.text.now c.loop-at.at (map rule_token_of c.loop-at.tokens.items) c.loop-at.invariant.reached (omega arith))
