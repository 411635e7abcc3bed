use Rattle.std.proofs.Common.{◌≡◌, Ok, Err, sym, ap, ◌∙◌, subst, arith}
use Rattle.std.specs.Prelude.{IsTrue}
use Rattle.grid_model.specs.Applying.{IsMade, is_user}
use Rattle.grid_model.specs.Doing.{do_call}
use Rattle.grid_model.specs.RowGrids.{user_name}
use Rattle.grid_model.specs.Rows.{Cat}
use Rattle.grid_journal.specs.Journal.{AreSpelled}
use Rattle.grid_deed.proofs.Keeping.{made_more}
use Rattle.plan_service.specs.declared.error.ServiceError.TheVariants as error
use Rattle.plan_service.specs.declared.plans.ServicePlan.TheVariants as plan
use Rattle.service_run.specs.declared.ending.Ending.TheVariants as ending
use Rattle.service_run.proofs.CallSteps.{leads_planned, planned_as, ready_still, step_doing}
use Rattle.service_run.proofs.ChangeSteps.{changes_cut, fails_as}
use Rattle.service_run.proofs.FewMoments.{call_within}
use Rattle.service_run.proofs.Passing.{passes_as, passes_none}
use Rattle.service_run.proofs.running.run_call.Goals as goal

pub is_spelled-requires : goal.is_spelled-requires
is_spelled-requires g c = record { sound = c.requires.held.1.sound }

pub plan_call-requires-clause-made : goal.plan_call-requires-clause-made
plan_call-requires-clause-made g c =
    let store = c.args.store.now in
    subst IsMade (sym c.tables.ensures) (made_more c.requires.held.0 store.cat store.staged c.requires.held.1.made c.requires.held.1.staged)

pub plan_call-requires-clause-user : goal.plan_call-requires-clause-user
plan_call-requires-clause-user g c =
    let U : Cat → Type 0 = λ x. IsTrue (is_user x c.args.command.now.user) in
    subst U (sym c.tables.ensures) c.requires.user

pub plan_call-requires-clause-spelled : goal.plan_call-requires-clause-spelled
plan_call-requires-clause-spelled g c =
    let S : Cat → Type 0 = λ x. AreSpelled x.triples in
    subst S (sym c.tables.ensures) c.is_spelled.ensures

pub change-requires-clause-led : goal.change-requires-clause-led
change-requires-clause-led g c =
    let m = planned_as c.args.store.now.cat c.tables.result.now c.tables.ensures c.args.command.now.user c.args.call.now c.plan_call.result (Ok (plan.Changes c.in-Ok-Changes.deltas)) (c.in-Ok-Changes.is ∙ ap Ok c.in-Ok-Changes.field-0-is) c.plan_call.ensures in
    (m.after, leads_planned c.args.store.now.cat (do_call (user_name c.args.store.now.cat c.args.command.now.user) c.args.call.now) c.in-Ok-Changes.deltas m)

pub change-requires-clause-ready : goal.change-requires-clause-ready
change-requires-clause-ready g c = ready_still g.D.Disk.disk g.P.Plugin.plugin g.K.Sink.sink _ (record { outside = c.args.outside.now; sink = c.args.sink.now }) c.requires.ready

pub chksum-requires-clause-may : goal.chksum-requires-clause-may
chksum-requires-clause-may g c = (planned_as c.args.store.now.cat c.tables.result.now c.tables.ensures c.args.command.now.user c.args.call.now c.plan_call.result (Ok (plan.Chksum c.in-Ok-Chksum.path c.in-Ok-Chksum.files)) (c.in-Ok-Chksum.is ∙ ap Ok c.in-Ok-Chksum.field-0-is) c.plan_call.ensures).1

pub chksum-requires-clause-ready : goal.chksum-requires-clause-ready
chksum-requires-clause-ready g c = ready_still g.D.Disk.disk g.P.Plugin.plugin g.K.Sink.sink _ (record { outside = c.args.outside.now; sink = c.args.sink.now }) c.requires.ready

pub repl-requires-clause-may : goal.repl-requires-clause-may
repl-requires-clause-may g c = (planned_as c.args.store.now.cat c.tables.result.now c.tables.ensures c.args.command.now.user c.args.call.now c.plan_call.result (Ok (plan.Repl c.in-Ok-Repl.path c.in-Ok-Repl.resource c.in-Ok-Repl.from)) (c.in-Ok-Repl.is ∙ ap Ok c.in-Ok-Repl.field-0-is) c.plan_call.ensures).1

pub copy_object-requires-clause-may : goal.copy_object-requires-clause-may
copy_object-requires-clause-may g c = (c.in-Ok-Copy.from, (planned_as c.args.store.now.cat c.tables.result.now c.tables.ensures c.args.command.now.user c.args.call.now c.plan_call.result (Ok (plan.Copy c.in-Ok-Copy.from c.in-Ok-Copy.to c.in-Ok-Copy.resource c.in-Ok-Copy.file)) (c.in-Ok-Copy.is ∙ ap Ok c.in-Ok-Copy.field-0-is) c.plan_call.ensures).1)

pub returns-in-Err-Memory-clause-step : goal.returns-in-Err-Memory-clause-step
returns-in-Err-Memory-clause-step g c source kept held = changes_cut g.D.Disk.disk g.A.Ambient.ambient g.P.Plugin.plugin source c.args.outside.now (g.K.Sink.sink c.args.sink.now) kept c.args.store.now c.args.command.now c.args.call.now c.args.undo.now held c.requires.ready.outside.main_last c.requires.ready.sink_last (do_call (user_name c.args.store.now.cat c.args.command.now.user) c.args.call.now) c.args.store.now

pub returns-in-Err-Memory-clause-passes : goal.returns-in-Err-Memory-clause-passes
returns-in-Err-Memory-clause-passes g c = passes_none g.D.Disk.disk g.P.Plugin.plugin g.K.Sink.sink _ _ c.args.outside.now c.args.outside.now.ambient c.args.sink.now (λ e. cc) (λ e. cc)

pub returns-in-Err-Failed-clause-step : goal.returns-in-Err-Failed-clause-step
returns-in-Err-Failed-clause-step g c source kept held =
    let plans = planned_as c.args.store.now.cat c.tables.result.now c.tables.ensures c.args.command.now.user c.args.call.now c.plan_call.result (Err (error.Failed c.in-Err-Failed.failure)) (c.in-Err-Failed.is ∙ ap Err c.in-Err-Failed.field-0-is) c.plan_call.ensures in
    fails_as g.D.Disk.disk g.A.Ambient.ambient g.P.Plugin.plugin source c.args.outside.now (g.K.Sink.sink c.args.sink.now) kept c.args.store.now c.args.command.now c.args.call.now c.args.undo.now held c.requires.ready.outside.main_last c.requires.ready.sink_last (do_call (user_name c.args.store.now.cat c.args.command.now.user) c.args.call.now) c.in-Err-Failed.failure _ c.in-Err-Failed.failure-is plans

pub returns-in-Err-Failed-clause-passes : goal.returns-in-Err-Failed-clause-passes
returns-in-Err-Failed-clause-passes g c = passes_none g.D.Disk.disk g.P.Plugin.plugin g.K.Sink.sink _ _ c.args.outside.now c.args.outside.now.ambient c.args.sink.now (λ e. cc) (λ e. cc)

pub returns-in-Ok-Changes-clause-step : goal.returns-in-Ok-Changes-clause-step
returns-in-Ok-Changes-clause-step g c source kept held =
    let m = planned_as c.args.store.now.cat c.tables.result.now c.tables.ensures c.args.command.now.user c.args.call.now c.plan_call.result (Ok (plan.Changes c.in-Ok-Changes.deltas)) (c.in-Ok-Changes.is ∙ ap Ok c.in-Ok-Changes.field-0-is) c.plan_call.ensures in
    c.change.ensures.step source kept m.after c.args.call.now c.args.undo.now (do_call (user_name c.args.store.now.cat c.args.command.now.user) c.args.call.now) held (leads_planned c.args.store.now.cat (do_call (user_name c.args.store.now.cat c.args.command.now.user) c.args.call.now) c.in-Ok-Changes.deltas m) m.does
    (call_within c.args.store.now.cat m.after (user_name c.args.store.now.cat c.args.command.now.user) c.args.call.now m.does)

pub returns-in-Ok-Changes-clause-passes : goal.returns-in-Ok-Changes-clause-passes
returns-in-Ok-Changes-clause-passes g c =
    passes_none g.D.Disk.disk g.P.Plugin.plugin g.K.Sink.sink _ _ c.args.outside.now c.args.outside.now.ambient c.args.sink.now
    (λ is. (let same : ending.Disk ≡ ending.Memory = c.change.ensures.errors ending.Disk is in cc)) (λ is. (let same : ending.Sink ≡ ending.Memory = c.change.ensures.errors ending.Sink is in cc))

pub returns-in-Ok-Chksum-clause-step : goal.returns-in-Ok-Chksum-clause-step
returns-in-Ok-Chksum-clause-step g c source kept held =
    let plans = planned_as c.args.store.now.cat c.tables.result.now c.tables.ensures c.args.command.now.user c.args.call.now c.plan_call.result (Ok (plan.Chksum c.in-Ok-Chksum.path c.in-Ok-Chksum.files)) (c.in-Ok-Chksum.is ∙ ap Ok c.in-Ok-Chksum.field-0-is) c.plan_call.ensures in
    step_doing (do_call (user_name c.args.store.now.cat c.args.command.now.user) c.args.call.now) plans.0.does c.chksum.result (c.chksum.ensures.step source kept c.args.call.now c.args.undo.now plans.0.of held plans.0.row_is)

pub returns-in-Ok-Chksum-clause-passes : goal.returns-in-Ok-Chksum-clause-passes
returns-in-Ok-Chksum-clause-passes g c =
    passes_as g.D.Disk.disk g.P.Plugin.plugin g.K.Sink.sink ⊥ ⊥ _ _ c.args.outside.now c.chksum.new.outside c.args.outside.now.ambient c.args.sink.now c.args.sink.now (λ e. absurd e)
    (λ is. (let same : ending.Disk ≡ ending.Memory = c.chksum.ensures.errors ending.Disk is in cc)) (λ is. (let same : ending.Sink ≡ ending.Memory = c.chksum.ensures.errors ending.Sink is in cc)) c.chksum.ensures.passes

pub returns-in-Ok-Repl-clause-step : goal.returns-in-Ok-Repl-clause-step
returns-in-Ok-Repl-clause-step g c source kept held =
    let plans = planned_as c.args.store.now.cat c.tables.result.now c.tables.ensures c.args.command.now.user c.args.call.now c.plan_call.result (Ok (plan.Repl c.in-Ok-Repl.path c.in-Ok-Repl.resource c.in-Ok-Repl.from)) (c.in-Ok-Repl.is ∙ ap Ok c.in-Ok-Repl.field-0-is) c.plan_call.ensures in
    step_doing (do_call (user_name c.args.store.now.cat c.args.command.now.user) c.args.call.now) plans.0.does c.repl.result (c.repl.ensures.step source kept plans.0.of held plans.0.row_is)

pub returns-in-Ok-Repl-clause-passes : goal.returns-in-Ok-Repl-clause-passes
returns-in-Ok-Repl-clause-passes g c = c.repl.ensures.passes

pub returns-in-Ok-Copy-clause-step : goal.returns-in-Ok-Copy-clause-step
returns-in-Ok-Copy-clause-step g c source kept held =
    let plans = planned_as c.args.store.now.cat c.tables.result.now c.tables.ensures c.args.command.now.user c.args.call.now c.plan_call.result (Ok (plan.Copy c.in-Ok-Copy.from c.in-Ok-Copy.to c.in-Ok-Copy.resource c.in-Ok-Copy.file)) (c.in-Ok-Copy.is ∙ ap Ok c.in-Ok-Copy.field-0-is) c.plan_call.ensures in
    step_doing (do_call (user_name c.args.store.now.cat c.args.command.now.user) c.args.call.now) plans.0.does c.copy_object.result (c.copy_object.ensures.step source kept c.in-Ok-Copy.from plans.0.of held plans.1 plans.0.row_is)

pub returns-in-Ok-Copy-clause-passes : goal.returns-in-Ok-Copy-clause-passes
returns-in-Ok-Copy-clause-passes g c = c.copy_object.ensures.passes

pub returns-in-Err-Memory-clause-drawn : goal.returns-in-Err-Memory-clause-drawn
returns-in-Err-Memory-clause-drawn g c each most = omega arith

pub returns-in-Err-Failed-clause-drawn : goal.returns-in-Err-Failed-clause-drawn
returns-in-Err-Failed-clause-drawn g c each most = omega arith

pub returns-in-Ok-Changes-clause-drawn : goal.returns-in-Ok-Changes-clause-drawn
returns-in-Ok-Changes-clause-drawn g c each most = omega arith

pub returns-in-Ok-Chksum-clause-drawn : goal.returns-in-Ok-Chksum-clause-drawn
returns-in-Ok-Chksum-clause-drawn g c each most = omega (arith, c.chksum.ensures.drawn)

pub returns-in-Ok-Repl-clause-drawn : goal.returns-in-Ok-Repl-clause-drawn
returns-in-Ok-Repl-clause-drawn g c each most = c.repl.ensures.drawn each most

pub returns-in-Ok-Copy-clause-drawn : goal.returns-in-Ok-Copy-clause-drawn
returns-in-Ok-Copy-clause-drawn g c each most = c.copy_object.ensures.drawn each most
