use Rattle.std.proofs.Common.{subst}
use Rattle.grid_model.specs.Grid.{Thing}
use Rattle.grid_model.specs.Operations.Table.{rmmeta}
use Rattle.grid_model.specs.RowGrids.{user_name}
use Rattle.plan_base.specs.Plans.{PlansChange}
use Rattle.plan_service.proofs.changing.plan_unsaid.Goals as goal

pub returns : goal.returns
returns c =
    let name = user_name c.args.tables.now c.args.user in
    let t = c.args.triple in
    let said : Thing → Type 0 = λ x.
    PlansChange c.args.tables.now name (rmmeta (record { of = x; attribute = t.attribute.now; value = t.value.now; unit = t.unit.now })) c.plan_rmmeta.result in
    subst said c.thing_of-thing.ensures c.plan_rmmeta.ensures
