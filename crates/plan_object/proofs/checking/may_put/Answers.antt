use Rattle.std.proofs.Common.{sym}
use Rattle.plan_base.proofs.AtPaths.{user_known}
use Rattle.plan_object.proofs.PutRows.{may_new, may_old}
use Rattle.plan_object.proofs.checking.may_put.Goals as goal

pub may_at-requires-clause-user : goal.may_at-requires-clause-user
may_at-requires-clause-user c = user_known c.args.tables.now c.args.user c.requires.user

pub may_at-requires-in-Some-clause-user : goal.may_at-requires-in-Some-clause-user
may_at-requires-in-Some-clause-user c = user_known c.args.tables.now c.args.user c.requires.user

pub returns-in-None : goal.returns-in-None
returns-in-None c = λ inside. may_new c.args.tables.now c.requires.made _ inside.above c.args.path.now c.may_at.result c.in-None.ensures (c.may_at.ensures inside.above inside.at)

pub returns-in-Some : goal.returns-in-Some
returns-in-Some c = λ inside. may_old c.args.tables.now c.requires.made _ inside.above c.args.path.now c.may_at-in-Some.result c.in-Some.id c.in-Some.ensures (c.may_at-in-Some.ensures c.args.path.now (sym c.in-Some.ensures))
