use Rattle.plan_coll.proofs.FlaggedCollections.{is_there}
use Rattle.plan_coll.proofs.moving.moved_collection.Goals as goal

pub unreachable-requires : goal.unreachable-requires
unreachable-requires c = is_there c.args.tables.now c.args.id c.requires.there c.in-None.ensures.row
