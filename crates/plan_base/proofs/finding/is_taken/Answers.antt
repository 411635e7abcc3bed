use Rattle.plan_base.proofs.AtPaths.{taken_first, taken_then}
use Rattle.plan_base.proofs.finding.is_taken.Goals as goal

pub returns-then-is_some : goal.returns-then-is_some
returns-then-is_some c = taken_first c.args.tables.now c.requires c.args.path.now _ _ c.collection_at.ensures c.is_some.ensures c.if-is_some.true

pub returns-else-is_some : goal.returns-else-is_some
returns-else-is_some c = taken_then c.args.tables.now c.requires c.args.path.now _ _ _ _ c.collection_at.ensures c.is_some.ensures c.if-is_some.false c.object_at.ensures c.is_some-else-is_some.ensures
