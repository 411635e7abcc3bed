use Rattle.std.proofs.Common.{◌∙◌, sym, ap, rules}
use Rattle.chain_core.specs.Moves.{next_named}
use Rattle.chain_core.specs.Seen.{plain_rules}
use Rattle.chain_core.proofs.Finding.{found, passed, none_left}
use Rattle.chain_core.proofs.base.RuleBase.first_from.Goals as goal

pub returns-then-is_same : goal.returns-then-is_same
returns-then-is_same c =
    sym (found _ _ _ _ c.loop-at-test.true c.index-rules-at.is (search (rules, c.if-is_same.ensures, c.if-is_same.true))) ∙ c.loop-at.invariant
    ∙ ap (λ rs. next_named (plain_rules rs) c.args.name.now c.args.from) c.as_slice-rules.ensures

pub loop-at-preserved : goal.loop-at-preserved
loop-at-preserved c = passed _ _ _ _ c.loop-at-test.true c.index-rules-at.is (λ e. absurd (cc (c.if-is_same.ensures.1 (ap (λ r. r.name) (sym c.index-rules-at.is) ∙ e)))) ∙ c.loop-at.invariant

pub returns : goal.returns
returns c = sym (none_left _ _ _ c.loop-at-test.false) ∙ c.loop-at.invariant ∙ ap (λ rs. next_named (plain_rules rs) c.args.name.now c.args.from) c.as_slice-rules.ensures
