use Rattle.std.proofs.Common.{sym, ◌∙◌}
use Rattle.grid_model.specs.RowGrids.{user_name}
use Rattle.plan_base.proofs.AtPaths.{user_known}
use Rattle.plan_meta.specs.Things.{thing_by}
use Rattle.plan_meta.proofs.ChangedTriples.{add_said, add_full, planned_add}
use Rattle.plan_meta.proofs.changing.plan_addmeta.Goals as goal

pub item_to_tag-requires-clause-user : goal.item_to_tag-requires-clause-user
item_to_tag-requires-clause-user c = user_known c.args.tables.now c.args.user c.requires.user

pub returns-then-is_said : goal.returns-then-is_said
returns-then-is_said c =
    add_said c.args.tables.now c.requires.made (user_name c.args.tables.now c.args.user) (thing_by c.args.thing.now) c.args.attribute.now c.args.value.now c.args.unit.now
    c.in-Ok.ensures.0 (c.in_default.ensures (thing_by c.args.thing.now)) c.in-Ok.item c.in-Ok.ensures.1 (sym c.is_said.ensures ∙ c.if-is_said.true)

pub returns-in-Err-has_room : goal.returns-in-Err-has_room
returns-in-Err-has_room c =
    add_full c.args.tables.now c.requires.made (user_name c.args.tables.now c.args.user) (thing_by c.args.thing.now) c.args.attribute.now c.args.value.now c.args.unit.now
    c.in-Ok.ensures.0 (c.in_default.ensures (thing_by c.args.thing.now)) c.in-Ok.item c.in-Ok.ensures.1 (sym c.is_said.ensures ∙ c.if-is_said.false)
    c.in-Err-has_room.refusal c.in-Err-has_room.ensures

pub returns-in-Ok-add_change : goal.returns-in-Ok-add_change
returns-in-Ok-add_change c =
    planned_add c.args.tables.now c.requires.made (user_name c.args.tables.now c.args.user) (thing_by c.args.thing.now) c.args.attribute.now c.args.value.now c.args.unit.now
    c.in-Ok.ensures.0 (c.in_default.ensures (thing_by c.args.thing.now)) c.in-Ok.item c.in-Ok.ensures.1 (sym c.is_said.ensures ∙ c.if-is_said.false)
    c.in_default-has_room.field-0 c.in_default-has_room.ensures c.in-Ok-add_change.deltas c.in-Ok-add_change.ensures.change c.in-Ok-add_change.ensures.spelled
