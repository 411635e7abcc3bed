use Rattle.std.proofs.Common.{subst}
use Rattle.grid_model.specs.Grid.{Thing}
use Rattle.grid_model.specs.Operations.Table.{addmeta}
use Rattle.grid_model.specs.RowGrids.{user_name}
use Rattle.plan_base.specs.Plans.{PlansChange}
use Rattle.plan_service.proofs.changing.plan_said.Goals as goal

pub returns : goal.returns
returns c =
    let name = user_name c.args.tables.now c.args.user in
    let t = c.args.triple in
    let said : Thing → Type 0 = λ x.
    PlansChange c.args.tables.now name (addmeta (record { of = x; attribute = t.attribute.now; value = t.value.now; unit = t.unit.now })) c.plan_addmeta.result in
    subst said c.thing_of-thing.ensures c.plan_addmeta.ensures
