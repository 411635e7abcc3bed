use Rattle.std.proofs.Common.{sym, ◌∙◌}
use Rattle.plan_base.proofs.AtPaths.{user_known}
use Rattle.plan_coll.proofs.ChangedMembers.{add_member, add_full, planned_add}
use Rattle.plan_coll.proofs.members.plan_addmember.Goals as goal

pub is_admin-requires-clause-user : goal.is_admin-requires-clause-user
is_admin-requires-clause-user c = user_known c.args.tables.now c.args.user c.requires.user

pub returns-then-is_member : goal.returns-then-is_member
returns-then-is_member c =
    add_member c.args.tables.now c.requires.made c.args.user c.args.group.now c.args.member.now (sym c.is_admin.ensures ∙ c.if-not-is_admin.false) c.in-Some.row c.in-Some.ensures
    (sym c.is_everybody.ensures ∙ c.if-is_everybody.false) (sym c.is_member.ensures ∙ c.if-is_member.true)

pub returns-in-Err : goal.returns-in-Err
returns-in-Err c =
    add_full c.args.tables.now c.requires.made c.args.user c.args.group.now c.args.member.now (sym c.is_admin.ensures ∙ c.if-not-is_admin.false) c.in-Some.row c.in-Some.ensures
    (sym c.is_everybody.ensures ∙ c.if-is_everybody.false) (sym c.is_member.ensures ∙ c.if-is_member.false) c.in-Err.refusal c.in-Err.ensures

pub returns : goal.returns
returns c =
    planned_add c.args.tables.now c.requires.made c.args.user c.args.group.now c.args.member.now (sym c.is_admin.ensures ∙ c.if-not-is_admin.false) c.in-Some.row c.in-Some.ensures
    (sym c.is_everybody.ensures ∙ c.if-is_everybody.false) (sym c.is_member.ensures ∙ c.if-is_member.false) c.in_default.field-0 c.in_default.ensures c.from_vec.result (c.from_vec.ensures ∙ c.in-Ok.ensures.items)
