use Rattle.std.proofs.Common.{sym, ◌∙◌}
use Rattle.plan_base.proofs.AtPaths.{user_known}
use Rattle.plan_tree.proofs.MadeResources.{few_resources, taken, full, no_slot, planned}
use Rattle.plan_tree.proofs.making.plan_mkresc.Goals as goal

pub is_admin-requires-clause-user : goal.is_admin-requires-clause-user
is_admin-requires-clause-user c = user_known c.args.tables.now c.args.user c.requires.user

pub returns-then-is_some : goal.returns-then-is_some
returns-then-is_some c =
    taken c.args.tables.now c.requires.made c.args.user c.args.name.now c.args.kind c.args.slot c.requires.named c.requires.slot (sym c.is_admin.ensures ∙ c.if-not-is_admin.false)
    c.is_some.result c.resource_named.result c.resource_named.ensures c.is_some.ensures c.if-is_some.true

pub returns-in-Err : goal.returns-in-Err
returns-in-Err c =
    full c.args.tables.now c.requires.made c.args.user c.args.name.now c.args.kind c.args.slot c.requires.named c.requires.slot (sym c.is_admin.ensures ∙ c.if-not-is_admin.false)
    c.is_some.result c.resource_named.result c.resource_named.ensures c.is_some.ensures c.if-is_some.false c.in-Err.refusal c.in-Err.ensures

pub returns-in-None : goal.returns-in-None
returns-in-None c =
    no_slot c.args.tables.now c.requires.made c.args.user c.args.name.now c.args.kind c.args.slot c.requires.named c.requires.slot (sym c.is_admin.ensures ∙ c.if-not-is_admin.false)
    c.is_some.result c.resource_named.result c.resource_named.ensures c.is_some.ensures c.if-is_some.false c.in_default.field-0 c.in_default.ensures c.in-None.ensures

pub new_row-requires-clause-few : goal.new_row-requires-clause-few
new_row-requires-clause-few c = few_resources _ c.in_default.field-0 c.in_default.ensures

pub returns : goal.returns
returns c =
    planned c.args.tables.now c.requires.made c.args.user c.args.name.now c.args.kind c.args.slot c.requires.named c.requires.slot (sym c.is_admin.ensures ∙ c.if-not-is_admin.false)
    c.is_some.result c.resource_named.result c.resource_named.ensures c.is_some.ensures c.if-is_some.false c.in_default.field-0 c.in_default.ensures c.in-Some.own c.in-Some.ensures c.in-Ok.row c.in-Ok.ensures
    c.from_vec.result (c.from_vec.ensures ∙ c.in-Ok-vec.ensures.items)
