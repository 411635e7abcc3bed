use Rattle.std.proofs.Common.{Err, sym, subst}
use Rattle.grid_model.specs.Doing.{do_operation}
use Rattle.grid_model.specs.Operations.Table.{chksum}
use Rattle.grid_model.specs.RowGrids.{user_name}
use Rattle.plan_service.specs.ServicePlans.{PlansDoing}
use Rattle.plan_service.specs.declared.error.ServiceError.{ServiceError}
use Rattle.plan_service.proofs.PlannedCalls.{no_chksum, planned_chksum}
use Rattle.plan_service.proofs.deeds.chksum_deed.Goals as goal

pub returns-in-Err : goal.returns-in-Err
returns-in-Err c = λ call.
    let name = user_name c.args.tables.now c.args.user in
    subst (λ (e : ServiceError). PlansDoing c.args.tables.now name call (do_operation call name (chksum c.args.path)) (Err e)) (sym c.from.ensures)
    (no_chksum c.args.tables.now name call c.args.path c.in-Err.why c.in-Err.ensures)

pub returns-in-Ok : goal.returns-in-Ok
returns-in-Ok c = λ call.
    planned_chksum c.args.tables.now (user_name c.args.tables.now c.args.user) call c.args.path c.in-Ok.files c.in-Ok.ensures
