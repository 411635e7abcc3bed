use Rattle.plan_coll.proofs.MovedItems.{object_there}
use Rattle.plan_coll.proofs.moving.moved_object.Goals as goal

pub unreachable-requires : goal.unreachable-requires
unreachable-requires c = object_there c.args.tables.now c.args.id c.requires.there c.in-None.ensures.row
