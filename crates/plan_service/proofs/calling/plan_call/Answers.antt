use Rattle.std.proofs.Common.{Option, sym, ap, ◌∙◌, subst}
use Rattle.std.specs.Prelude.{option_map}
use Rattle.grid_model.specs.Doing.{do_service}
use Rattle.grid_model.specs.RowGrids.{user_name}
use Rattle.grid_model.specs.Services.{Service}
use Rattle.service_read.specs.ReadServices.{service_of}
use Rattle.plan_service.specs.ServicePlans.{AddsWords, PlansDoing}
use Rattle.plan_service.proofs.calling.plan_call.Goals as goal

pub plan_service-requires-clause-words : goal.plan_service-requires-clause-words
plan_service-requires-clause-words c =
    let is = ap (option_map service_of) (sym c.in-Ok-Some.field-0-is) ∙ c.in-Ok-Some.ensures in
    subst AddsWords (sym is) c.requires.words

pub returns-in-Ok-None : goal.returns-in-Ok-None
returns-in-Ok-None c = λ s at.
    let name = user_name c.args.tables.now c.args.user in
    let is = ap (option_map service_of) (sym c.in-Ok-None.field-0-is) ∙ c.in-Ok-None.ensures in
    ap (λ (m : Option Service). do_service c.args.call.now name m s) (sym is)

pub returns-in-Ok-Some : goal.returns-in-Ok-Some
returns-in-Ok-Some c =
    let name = user_name c.args.tables.now c.args.user in
    let is = ap (option_map service_of) (sym c.in-Ok-Some.field-0-is) ∙ c.in-Ok-Some.ensures in
    subst (λ (m : Option Service). PlansDoing c.args.tables.now name c.args.call.now (do_service c.args.call.now name m) c.plan_service.result) is
    (c.plan_service.ensures c.args.call.now)
