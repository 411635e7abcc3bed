use Rattle.std.proofs.Common.{sym}
use Rattle.plan_base.proofs.AtPaths.{user_known}
use Rattle.plan_object.proofs.AllowedRows.{is_allowed, none_allowed, not_allowed}
use Rattle.plan_object.proofs.allowing.object_for.Goals as goal

pub may_at-requires-clause-user : goal.may_at-requires-clause-user
may_at-requires-clause-user c = user_known c.args.tables.now c.args.user c.requires.user

pub returns-in-None : goal.returns-in-None
returns-in-None c = none_allowed c.args.tables.now c.requires.made _ c.args.path.now c.args.level c.in-None.ensures

pub returns-then-not-may_at : goal.returns-then-not-may_at
returns-then-not-may_at c =
    not_allowed c.args.tables.now c.requires.made _ c.args.path.now c.args.level c.in-Some.id c.in-Some.ensures (sym (c.if-not-may_at.ensures c.args.path.now (sym c.in-Some.ensures)))

pub returns-else-not-may_at : goal.returns-else-not-may_at
returns-else-not-may_at c =
    is_allowed c.args.tables.now c.requires.made _ c.args.path.now c.args.level c.in-Some.id c.in-Some.ensures (sym (c.if-not-may_at.ensures c.args.path.now (sym c.in-Some.ensures)))
