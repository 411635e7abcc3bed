use Rattle.std.proofs.Common.{◌≡◌, ◌++◌, drop}
use Rattle.plan_object.specs.ReplPlans.{lacking_leaves}
use Rattle.plan_object.proofs.replicating.lacking_leaves.Given as goal

-- what was kept so far and what the other leaves give come to what all give
abbrev pub invariant-loop-leaf : goal.invariant-loop-leaf
invariant-loop-leaf l = l.lacking.items ++ lacking_leaves l.rows (drop l.leaf-index l.leaves) ≡ lacking_leaves l.rows l.leaves
