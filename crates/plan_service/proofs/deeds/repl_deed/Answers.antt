use Rattle.std.proofs.Common.{Ok, Err, sym, ◌∙◌, subst}
use Rattle.grid_model.specs.Doing.{do_operation}
use Rattle.grid_model.specs.Names.{Text}
use Rattle.grid_model.specs.Operations.Table.{repl}
use Rattle.grid_model.specs.RowGrids.{user_name}
use Rattle.plan_service.specs.ServicePlans.{PlansDoing}
use Rattle.plan_service.specs.declared.error.ServiceError.{ServiceError}
use Rattle.plan_service.specs.declared.plans.ServicePlan.TheVariants as plan
use Rattle.plan_service.proofs.PlannedCalls.{no_repl, planned_repl}
use Rattle.plan_service.proofs.deeds.repl_deed.Goals as goal

pub returns-in-Err : goal.returns-in-Err
returns-in-Err c = λ call.
    let name = user_name c.args.tables.now c.args.user in
    subst (λ (e : ServiceError). PlansDoing c.args.tables.now name call (do_operation call name (repl c.args.path c.args.resource.now)) (Err e)) (sym c.from.ensures)
    (no_repl c.args.tables.now name call c.args.path c.args.resource.now c.in-Err.why c.in-Err.ensures)

pub returns-in-Ok-copy_of : goal.returns-in-Ok-copy_of
returns-in-Ok-copy_of c = λ call.
    let name = user_name c.args.tables.now c.args.user in
    let P : Text → Type 0 = λ r.
    PlansDoing c.args.tables.now name call (do_operation call name (repl c.args.path c.args.resource.now)) (Ok (plan.Repl c.args.path r c.in-Ok.from)) in
    subst P (sym (c.in-Ok-copy_of.ensures ∙ c.as_slice.ensures))
    (planned_repl c.args.tables.now name call c.args.path c.args.resource.now c.in-Ok.from c.requires.made c.in-Ok.ensures)
