use Rattle.plan_object.specs.Writing.{Recorded}
use Rattle.plan_object.proofs.NewRows.{writes_new}
use Rattle.plan_object.proofs.making.new_object.Goals as goal

pub returns : goal.returns
returns c =
    let r : Recorded = record { size = c.args.size; digest = c.args.digest; now = c.args.now } in
    writes_new c.args.tables.now c.args.user c.args.path.now r c.args.targets.now c.in_ok-row.row c.in_ok-row.ensures c.new_plan.result c.new_plan.ensures
