use Rattle.plan_base.proofs.FixedPaths.{kind_none, kind_some}
use Rattle.plan_base.proofs.users.kind_named.Goals as goal

pub returns-in-None : goal.returns-in-None
returns-in-None c = kind_none c.args.tables.now c.requires.made c.args.name.now c.in-None.ensures

pub returns-in-Some : goal.returns-in-Some
returns-in-Some c = kind_some c.args.tables.now c.requires.made c.args.name.now c.in-Some.id c.kind_of_user.result c.in-Some.ensures c.kind_of_user.ensures
