use Rattle.cmd_reply.proofs.Spacing.{counted_more}
use Rattle.cmd_reply.proofs.parts.push_counted.Goals as goal

pub loop-number-preserved : goal.loop-number-preserved
loop-number-preserved c =
    counted_more c.args.text.now.items c.loop-number.text.items c.push_next_number.new.text.items c.args.name.now c.args.numbers.now c.loop-number.number-index c.loop-number-test.true c.loop-number.invariant c.in_ok-push_next_number.ensures
