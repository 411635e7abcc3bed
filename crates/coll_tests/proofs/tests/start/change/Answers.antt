use Rattle.grid_access.proofs.Made.{made-after}
use Rattle.coll_tests.proofs.tests.start.change.Goals as goal

pub returns : goal.returns
returns c = made-after c.apply.result c.args.tables.now c.apply.new.self c.args.delta c.requires c.apply.ensures.applied c.apply.ensures.unchanged
