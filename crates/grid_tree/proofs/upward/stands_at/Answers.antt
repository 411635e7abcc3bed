use Rattle.std.proofs.Common.{◌≡◌, ◌-◌, ◌+◌, suc, ℕ, sym, ap, ◌∙◌, arith}
use Rattle.grid_tree.specs.Reading.{in_within}
use Rattle.grid_tree.proofs.WaysUp.{within-hit, within-top, within-up, within-last}
use Rattle.grid_tree.proofs.upward.stands_at.Goals as goal

pub returns-then-current-upper : goal.returns-then-current-upper
returns-then-current-upper c = sym (within-hit c.args.tables.now c.args.upper c.loop-step.current _ c.if-current-upper.true) ∙ c.loop-step.invariant

pub returns-in-None : goal.returns-in-None
returns-in-None c = sym (within-top c.args.tables.now c.args.upper c.loop-step.current _ c.if-current-upper.false (sym c.in-None.ensures)) ∙ c.loop-step.invariant

pub loop-step-preserved : goal.loop-step-preserved
loop-step-preserved c =
    let less : c.count-step-end.result - c.loop-step._step ≡ suc (c.count-step-end.result - (c.loop-step._step + 1)) = omega arith in
    ap (λ k. in_within k c.args.tables.now c.args.upper c.in-Some.parent) (sym less)
    ∙ sym (within-up c.args.tables.now c.args.upper c.loop-step.current _ c.in-Some.parent c.if-current-upper.false (sym c.in-Some.ensures)) ∙ c.loop-step.invariant

pub returns : goal.returns
returns c =
    let done : c.count-step-end.result - c.loop-step._step ≡ 0 = omega arith in
    sym (within-last c.args.tables.now c.args.upper c.loop-step.current) ∙ ap (λ k. in_within (suc k) c.args.tables.now c.args.upper c.loop-step.current) (sym done) ∙ c.loop-step.invariant
