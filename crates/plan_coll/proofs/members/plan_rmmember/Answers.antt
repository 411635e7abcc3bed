use Rattle.std.proofs.Common.{sym, ◌∙◌}
use Rattle.plan_base.proofs.AtPaths.{user_known}
use Rattle.plan_coll.proofs.ChangedMembers.{drop_nobody, planned_drop}
use Rattle.plan_coll.proofs.members.plan_rmmember.Goals as goal

pub is_admin-requires-clause-user : goal.is_admin-requires-clause-user
is_admin-requires-clause-user c = user_known c.args.tables.now c.args.user c.requires.user

pub returns-then-not-is_member : goal.returns-then-not-is_member
returns-then-not-is_member c =
    drop_nobody c.args.tables.now c.requires.made c.args.user c.args.group.now c.args.member.now (sym c.is_admin.ensures ∙ c.if-not-is_admin.false) c.in-Some.row c.in-Some.ensures
    (sym c.is_everybody.ensures ∙ c.if-is_everybody.false) (sym c.is_member.ensures ∙ c.if-not-is_member.true)

pub returns : goal.returns
returns c =
    planned_drop c.args.tables.now c.requires.made c.args.user c.args.group.now c.args.member.now (sym c.is_admin.ensures ∙ c.if-not-is_admin.false) c.in-Some.row c.in-Some.ensures
    (sym c.is_everybody.ensures ∙ c.if-is_everybody.false) (sym c.is_member.ensures ∙ c.if-not-is_member.false) c.from_vec.result (c.from_vec.ensures ∙ c.in-Ok.ensures.items)
