use Rattle.std.proofs.Common.{sym, ◌∙◌}
use Rattle.plan_base.proofs.AtPaths.{user_known}
use Rattle.plan_drop.proofs.RemovedObjects.{refused_nothing, refused_level, planned}
use Rattle.plan_drop.proofs.removing.plan_rm.Goals as goal

pub returns-in-None : goal.returns-in-None
returns-in-None c = refused_nothing c.args.tables.now c.requires.made c.args.user c.args.path.now c.in-None.ensures

pub may_at-requires-clause-user : goal.may_at-requires-clause-user
may_at-requires-clause-user c = user_known c.args.tables.now c.args.user c.requires.user

pub returns-then-not-may_at : goal.returns-then-not-may_at
returns-then-not-may_at c =
    refused_level c.args.tables.now c.requires.made c.args.user c.args.path.now c.in-Some.id c.in-Some.ensures (sym (c.may_at.ensures c.args.path.now (sym c.in-Some.ensures)) ∙ c.if-not-may_at.true)

pub returns-in-Ok : goal.returns-in-Ok
returns-in-Ok c =
    planned c.args.tables.now c.requires.made c.args.user c.args.path.now c.in-Some.id c.in-Some.ensures (sym (c.may_at.ensures c.args.path.now (sym c.in-Some.ensures)) ∙ c.if-not-may_at.false)
    c.in-Ok.deltas c.in-Ok.ensures.changes c.in-Ok.ensures.spelled
