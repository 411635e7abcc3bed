use Rattle.std.proofs.Common.{Err, sym, subst}
use Rattle.grid_model.specs.Doing.{do_operation}
use Rattle.plan_base.specs.Plans.{PlansChange}
use Rattle.plan_service.specs.ServicePlans.{PlansDoing}
use Rattle.plan_service.specs.declared.error.ServiceError.{ServiceError}
use Rattle.plan_service.proofs.PlannedCalls.{planned_changes, planned_none}
use Rattle.plan_service.proofs.changing.changes_of.Goals as goal

pub returns-in-Ok : goal.returns-in-Ok
returns-in-Ok c = λ k user call op its. planned_changes k user call op c.in-Ok.deltas (subst (PlansChange k user op) c.in-Ok.is its)

pub returns-in-Err : goal.returns-in-Err
returns-in-Err c = λ k user call op its.
    subst (λ (e : ServiceError). PlansDoing k user call (do_operation call user op) (Err e)) (sym c.from.ensures)
    (planned_none k user call op c.in-Err.why (subst (PlansChange k user op) c.in-Err.is its))
