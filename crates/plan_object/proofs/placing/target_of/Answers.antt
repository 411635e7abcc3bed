use Rattle.plan_object.proofs.Targets.{leaf_there}
use Rattle.plan_object.proofs.placing.target_of.Goals as goal

pub unreachable-requires : goal.unreachable-requires
unreachable-requires c = leaf_there c.args.tables.now c.args.leaf c.requires c.in-None.ensures
