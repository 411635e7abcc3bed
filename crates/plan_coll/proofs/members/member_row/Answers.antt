use Rattle.std.proofs.Common.{sym, ap, ◌∙◌}
use Rattle.grid_model.specs.Operations.Common.{is_group, is_person}
use Rattle.plan_coll.proofs.ChangedMembers.{no_group_id, no_member_id, joins}
use Rattle.plan_coll.proofs.members.member_row.Goals as goal

pub returns-in-None : goal.returns-in-None
returns-in-None c = no_group_id c.args.tables.now c.requires c.args.group.now c.args.member.now c.in-None.ensures

pub returns-in-None-user_named : goal.returns-in-None-user_named
returns-in-None-user_named c = no_member_id c.args.tables.now c.requires c.args.group.now c.args.member.now c.in-None-user_named.ensures

pub returns-in-Some-user_named : goal.returns-in-Some-user_named
returns-in-Some-user_named c =
    joins c.args.tables.now c.requires c.args.group.now c.args.member.now c.in-Some.group c.in-Some-user_named.user
    (sym (c.is_group.ensures ∙ ap is_group c.kind_named.ensures) ∙ c.if-not-is_group.false) (sym (c.is_person.ensures ∙ ap is_person c.kind_named-2.ensures) ∙ c.if-not-is_person.false)
    c.in-Some.ensures c.in-Some-user_named.ensures c.joined.result c.joined.ensures.row c.joined.ensures.kept c.joined.ensures.dropped
