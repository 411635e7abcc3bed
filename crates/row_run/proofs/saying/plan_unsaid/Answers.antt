use Rattle.std.proofs.Common.{sym, subst}
use Rattle.grid_model.specs.Grid.{Thing}
use Rattle.grid_model.specs.Operations.Table.{rmmeta}
use Rattle.grid_model.specs.RowGrids.{user_name}
use Rattle.plan_base.specs.Plans.{PlansChange}
use Rattle.row_run.proofs.saying.plan_unsaid.Goals as goal

pub returns-in-Ok : goal.returns-in-Ok
returns-in-Ok c thing names =
    let cat = c.args.tables.now in
    let P : Thing → Type 0 = λ t. PlansChange cat (user_name cat c.args.user)
    (rmmeta (record { of = t; attribute = c.args.attribute.now; value = c.args.value.now; unit = c.args.unit.now })) c.plan_rmmeta.result in
    subst P (sym (c.in-Ok.ensures thing names)) c.plan_rmmeta.ensures
