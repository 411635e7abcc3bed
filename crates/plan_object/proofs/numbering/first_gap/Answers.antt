use Rattle.std.proofs.Common.{length, sym, ◌∙◌}
use Rattle.plan_object.proofs.Taken.{gap_further}
use Rattle.plan_object.proofs.numbering.first_gap.Goals as goal

pub loop-number-preserved : goal.loop-number-preserved
loop-number-preserved c =
    sym (gap_further c.args.taken.now (length c.args.taken.now) c.loop-number.number c.loop-number-test.true c.if-not-number_is_taken.ensures) ∙ c.loop-number.invariant
