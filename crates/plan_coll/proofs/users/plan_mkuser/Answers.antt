use Rattle.std.proofs.Common.{sym, ◌∙◌}
use Rattle.plan_base.proofs.AtPaths.{user_known}
use Rattle.plan_coll.proofs.MadeHomes.{no_home, full, planned}
use Rattle.plan_coll.proofs.users.plan_mkuser.Goals as goal

pub is_admin-requires-clause-user : goal.is_admin-requires-clause-user
is_admin-requires-clause-user c = user_known c.args.tables.now c.args.user c.requires.user

pub returns-in-Err : goal.returns-in-Err
returns-in-Err c =
    no_home c.args.tables.now c.requires.made c.args.user c.args.name.now c.args.kind c.requires.named (sym c.is_admin.ensures ∙ c.if-not-is_admin.false) c.in-Err.error c.in-Err.ensures

pub returns-in-Err-has_room_for_user : goal.returns-in-Err-has_room_for_user
returns-in-Err-has_room_for_user c =
    full c.args.tables.now c.requires.made c.args.user c.args.name.now c.args.kind c.requires.named (sym c.is_admin.ensures ∙ c.if-not-is_admin.false) c.in-Ok.homes c.in-Ok.ensures
    c.in-Err-has_room_for_user.refusal c.in-Err-has_room_for_user.ensures

pub returns-in-Ok-new_user : goal.returns-in-Ok-new_user
returns-in-Ok-new_user c =
    planned c.args.tables.now c.requires.made c.args.user c.args.name.now c.args.kind c.requires.named (sym c.is_admin.ensures ∙ c.if-not-is_admin.false) c.in-Ok.homes c.in-Ok.ensures
    c.in-Ok-new_user.deltas c.in-Ok-new_user.ensures c.in_default.field-0 c.in_default.ensures
