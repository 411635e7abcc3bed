use Rattle.std.proofs.Common.{arith}
use Rattle.plan_base.proofs.FreeIds.{gap_is_free}
use Rattle.plan_base.proofs.ids.free_id.Goals as goal

pub returns-then-id-next-clause-fresh : goal.returns-then-id-next-clause-fresh
returns-then-id-next-clause-fresh c = gap_is_free c.args.ids.now c.requires c.loop-id.next c.loop-id.id-index c.loop-id.invariant.below (λ inside. c.if-id-next.true)

pub returns-clause-fresh : goal.returns-clause-fresh
returns-clause-fresh c = gap_is_free c.args.ids.now c.requires c.loop-id.next c.loop-id.id-index c.loop-id.invariant.below (λ inside. omega (arith, c.loop-id-test.false, inside))
