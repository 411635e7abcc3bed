use Rattle.std.proofs.Common.{length, ◌-◌, ◌≡◌, sym, ap, ◌∙◌, arith}
use Rattle.grid_model.specs.Rows.{Cat}
use Rattle.grid_tables.proofs.WaysUp.{stands-start, stands-hit, stands-lost, stands-up, stands-done}
use Rattle.grid_tables.proofs.tables.Tables.stands_in.Goals as goal

pub loop-step-init : goal.loop-step-init
loop-step-init c =
    stands-start c.args.self.now c.args.upper c.args.id (length c.as_slice-step-end.result.now) (length c.args.self.now.resources)
    (ap length c.as_slice-step-end.ensures.rows ∙ ap (λ (t : Cat). length t.resources) c.self.view_is)

pub returns-then-current-upper : goal.returns-then-current-upper
returns-then-current-upper c =
    sym (stands-hit c.args.self.now c.args.upper c.loop-step.current (length c.as_slice-step-end.result.now) c.loop-step._step c.loop-step-test.true c.if-current-upper.true)
    ∙ c.loop-step.invariant

pub returns-in-None : goal.returns-in-None
returns-in-None c =
    sym (stands-lost c.args.self.now c.args.upper c.loop-step.current (length c.as_slice-step-end.result.now) c.loop-step._step c.loop-step-test.true c.if-current-upper.false c.in-None.ensures)
    ∙ c.loop-step.invariant

pub loop-step-preserved : goal.loop-step-preserved
loop-step-preserved c =
    sym (stands-up c.args.self.now c.args.upper c.loop-step.current (length c.as_slice-step-end.result.now) c.loop-step._step c.in-Some.row.now c.loop-step-test.true c.if-current-upper.false c.in-Some.ensures)
    ∙ c.loop-step.invariant

pub returns : goal.returns
returns c =
    let done : length c.as_slice-step-end.result.now - c.loop-step._step ≡ 0 = omega arith in
    sym (stands-done c.args.self.now c.args.upper c.loop-step.current (length c.as_slice-step-end.result.now) c.loop-step._step done) ∙ c.loop-step.invariant
