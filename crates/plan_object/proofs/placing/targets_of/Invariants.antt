use Rattle.std.proofs.Common.{take}
use Rattle.plan_object.specs.PutPlans.{AreTargets}
use Rattle.plan_object.proofs.placing.targets_of.Given as goal

abbrev pub invariant-loop-leaf : goal.invariant-loop-leaf
invariant-loop-leaf l = AreTargets l.tables (take l.leaf-index l.leaves) l.targets.items
