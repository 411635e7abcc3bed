use Rattle.std.proofs.Common.{sym, ◌∙◌}
use Rattle.plan_base.proofs.AtPaths.{user_known}
use Rattle.plan_coll.proofs.MadeUsers.{few_users, taken, full, planned}
use Rattle.plan_coll.proofs.users.plan_mkgroup.Goals as goal

pub is_admin-requires-clause-user : goal.is_admin-requires-clause-user
is_admin-requires-clause-user c = user_known c.args.tables.now c.args.user c.requires.user

pub user_row-requires-clause-few : goal.user_row-requires-clause-few
user_row-requires-clause-few c = few_users _ c.in_default.field-0 c.in_default.ensures

pub returns-in-Err : goal.returns-in-Err
returns-in-Err c =
    full c.args.tables.now c.requires.made c.args.user c.args.name.now c.requires.named (sym c.is_admin.ensures ∙ c.if-not-is_admin.false) c.is_some.result c.user_named.result c.user_named.ensures
    c.is_some.ensures c.if-is_some.false c.in-Err.refusal c.in-Err.ensures

pub returns : goal.returns
returns c =
    planned c.args.tables.now c.requires.made c.args.user c.args.name.now c.requires.named (sym c.is_admin.ensures ∙ c.if-not-is_admin.false) c.is_some.result c.user_named.result c.user_named.ensures
    c.is_some.ensures c.if-is_some.false c.in-Ok.row c.in-Ok.ensures c.in_default.field-0 c.in_default.ensures c.from_vec.result (c.from_vec.ensures ∙ c.in-Ok-vec.ensures.items)

pub returns-then-is_some : goal.returns-then-is_some
returns-then-is_some c =
    taken c.args.tables.now c.requires.made c.args.user c.args.name.now c.requires.named (sym c.is_admin.ensures ∙ c.if-not-is_admin.false) c.is_some.result c.user_named.result c.user_named.ensures
    c.is_some.ensures c.if-is_some.true
