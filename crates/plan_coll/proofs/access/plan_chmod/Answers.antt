use Rattle.std.proofs.Common.{sym, ◌∙◌}
use Rattle.plan_base.proofs.AtPaths.{user_known}
use Rattle.plan_coll.proofs.ChangedAccess.{refused_nothing, refused_level, refused_name, refused_room, planned}
use Rattle.plan_coll.proofs.access.plan_chmod.Goals as goal

pub returns-in-None : goal.returns-in-None
returns-in-None c = refused_nothing c.args.tables.now c.requires.made c.args.user c.args.level c.args.name.now c.args.path.now c.in-None.ensures

pub may_at-requires-clause-user : goal.may_at-requires-clause-user
may_at-requires-clause-user c = user_known c.args.tables.now c.args.user c.requires.user

pub returns-then-not-may_at : goal.returns-then-not-may_at
returns-then-not-may_at c =
    refused_level c.args.tables.now c.requires.made c.args.user c.args.level c.args.name.now c.args.path.now c.in-Some.item c.in-Some.ensures
    (sym (c.may_at.ensures c.args.path.now c.in-Some.ensures) ∙ c.if-not-may_at.true)

pub returns-in-None-user_named : goal.returns-in-None-user_named
returns-in-None-user_named c =
    refused_name c.args.tables.now c.requires.made c.args.user c.args.level c.args.name.now c.args.path.now c.in-Some.item c.in-Some.ensures
    (sym (c.may_at.ensures c.args.path.now c.in-Some.ensures) ∙ c.if-not-may_at.false) c.in-None-user_named.ensures

pub returns-in-Err : goal.returns-in-Err
returns-in-Err c =
    refused_room c.args.tables.now c.requires.made c.args.user c.args.level c.args.name.now c.args.path.now c.in-Some.item c.in-Some.ensures
    (sym (c.may_at.ensures c.args.path.now c.in-Some.ensures) ∙ c.if-not-may_at.false) c.in-Some-user_named.other c.in-Some-user_named.ensures c.entry_level-had.result c.entry_level-had.ensures c.is_some.result c.is_some.ensures c.in-Err.refusal c.in-Err.ensures

pub returns-in-Ok : goal.returns-in-Ok
returns-in-Ok c =
    planned c.args.tables.now c.requires.made c.args.user c.args.level c.args.name.now c.args.path.now c.in-Some.item c.in-Some.ensures
    (sym (c.may_at.ensures c.args.path.now c.in-Some.ensures) ∙ c.if-not-may_at.false) c.in-Some-user_named.other c.in-Some-user_named.ensures c.entry_level-had.result c.entry_level-had.ensures c.is_some.result c.is_some.ensures
    c.in_default.field-0 c.in_default.ensures c.in-Ok.deltas c.in-Ok.ensures.changes c.in-Ok.ensures.spelled
