use Rattle.grid_access.proofs.Made.{made-after}
use Rattle.coll_tests.proofs.SpelledRows.{spelled-after}
use Rattle.coll_tests.proofs.tests.services.make.Goals as goal

pub returns-clause-made : goal.returns-clause-made
returns-clause-made c = made-after c.apply.result c.args.tables.now c.apply.new.self c.args.delta c.requires.made c.apply.ensures.applied c.apply.ensures.unchanged

pub returns-clause-spelled : goal.returns-clause-spelled
returns-clause-spelled c =
    spelled-after c.apply.result c.args.tables.now c.apply.new.self c.args.delta c.requires.kept c.requires.spelled c.apply.ensures.applied c.apply.ensures.unchanged
