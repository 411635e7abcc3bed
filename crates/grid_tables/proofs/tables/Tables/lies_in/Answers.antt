use Rattle.std.proofs.Common.{length, ◌-◌, ◌≡◌, sym, ap, ◌∙◌, arith}
use Rattle.grid_model.specs.Rows.{Cat}
use Rattle.grid_tables.proofs.WaysUp.{lies-start, lies-hit, lies-root, lies-lost, lies-up, lies-done}
use Rattle.grid_tables.proofs.tables.Tables.lies_in.Goals as goal

pub loop-step-init : goal.loop-step-init
loop-step-init c =
    lies-start c.args.self.now c.args.upper c.args.id c.len-step-end.result (length c.args.self.now.collections)
    (c.len-step-end.ensures.len ∙ ap (λ (t : Cat). length t.collections) c.self.view_is)

pub returns-then-current-upper : goal.returns-then-current-upper
returns-then-current-upper c =
    sym (lies-hit c.args.self.now c.args.upper c.loop-step.current c.len-step-end.result c.loop-step._step c.loop-step-test.true c.if-current-upper.true)
    ∙ c.loop-step.invariant

pub returns-then-current-eq0 : goal.returns-then-current-eq0
returns-then-current-eq0 c =
    sym (lies-root c.args.self.now c.args.upper c.loop-step.current c.len-step-end.result c.loop-step._step c.loop-step-test.true c.if-current-upper.false c.if-current-eq0.true)
    ∙ c.loop-step.invariant

pub returns-in-None : goal.returns-in-None
returns-in-None c =
    sym (lies-lost c.args.self.now c.args.upper c.loop-step.current c.len-step-end.result c.loop-step._step c.loop-step-test.true c.if-current-upper.false c.if-current-eq0.false c.in-None.ensures.row)
    ∙ c.loop-step.invariant

pub loop-step-preserved : goal.loop-step-preserved
loop-step-preserved c =
    sym (lies-up c.args.self.now c.args.upper c.loop-step.current c.len-step-end.result c.loop-step._step c.in-Some.row.now c.loop-step-test.true c.if-current-upper.false c.if-current-eq0.false c.in-Some.ensures.row)
    ∙ c.loop-step.invariant

pub returns : goal.returns
returns c =
    let done : c.len-step-end.result - c.loop-step._step ≡ 0 = omega arith in
    sym (lies-done c.args.self.now c.args.upper c.loop-step.current c.len-step-end.result c.loop-step._step done) ∙ c.loop-step.invariant
