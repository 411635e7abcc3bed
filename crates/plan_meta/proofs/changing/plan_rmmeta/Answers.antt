use Rattle.std.proofs.Common.{sym, ◌∙◌}
use Rattle.grid_model.specs.RowGrids.{user_name}
use Rattle.plan_base.proofs.AtPaths.{user_known}
use Rattle.plan_meta.specs.Things.{thing_by}
use Rattle.plan_meta.proofs.ChangedTriples.{drop_unsaid, planned_drop}
use Rattle.plan_meta.proofs.changing.plan_rmmeta.Goals as goal

pub item_to_tag-requires-clause-user : goal.item_to_tag-requires-clause-user
item_to_tag-requires-clause-user c = user_known c.args.tables.now c.args.user c.requires.user

pub returns-then-not-is_said : goal.returns-then-not-is_said
returns-then-not-is_said c =
    drop_unsaid c.args.tables.now c.requires.made (user_name c.args.tables.now c.args.user) (thing_by c.args.thing.now) c.args.attribute.now c.args.value.now c.args.unit.now
    c.in-Ok.ensures.0 (c.in_default.ensures (thing_by c.args.thing.now)) c.in-Ok.item c.in-Ok.ensures.1 (sym c.is_said.ensures ∙ c.if-not-is_said.true)

pub returns-in-Ok-drop_change : goal.returns-in-Ok-drop_change
returns-in-Ok-drop_change c =
    planned_drop c.args.tables.now c.requires.made (user_name c.args.tables.now c.args.user) (thing_by c.args.thing.now) c.args.attribute.now c.args.value.now c.args.unit.now
    c.in-Ok.ensures.0 (c.in_default.ensures (thing_by c.args.thing.now)) c.in-Ok.item c.in-Ok.ensures.1 (sym c.is_said.ensures ∙ c.if-not-is_said.false)
    c.requires.spelled c.in-Ok-drop_change.deltas c.in-Ok-drop_change.ensures
