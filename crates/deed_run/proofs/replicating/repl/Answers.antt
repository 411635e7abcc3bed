use Rattle.std.proofs.Common.{Err, refl, sym, ap, ◌∙◌, subst, arith}
use Rattle.std.specs.Prelude.{⊤, Result, IsErrOf}
use Rattle.grid_outside.specs.declared.outside.Wear.TheVariants as wear
use Rattle.grid_model.specs.Working.{running}
use Rattle.grid_model.specs.declared.refusal.Failure.{Failure}
use Rattle.run_laws.proofs.Draws.{gave-none}
use Rattle.service_run.specs.declared.ending.Ending.{Ending}
use Rattle.service_run.specs.declared.ending.Ending.TheVariants as ending
use Rattle.service_run.proofs.DeedSteps.{looks_same}
use Rattle.service_run.proofs.StillSteps.{step_still, still_same}
use Rattle.grid_model.specs.RowGrids.{user_name}
use Rattle.grid_model.specs.Operations.Table.{repl}
use Rattle.grid_model.specs.declared.refusal.Failure.TheVariants.{Refused}
use Rattle.grid_deed.proofs.Keeping.{made_more}
use Rattle.plan_object.specs.ReplPlans.{FindsRepl}
use Rattle.plan_object.proofs.ReplRows.{repl_is}
use Rattle.service_run.proofs.ChangeSteps.{changes_cut, fails_as}
use Rattle.service_run.proofs.Passing.{passes_none}
use Rattle.deed_run.specs.Puts.{does_op}
use Rattle.deed_run.proofs.NotedSteps.{step_noted_as}
use Rattle.deed_run.proofs.PutSteps.{does_refused, where_ok}
use Rattle.deed_run.proofs.replicating.repl.Goals as goal

pub find_source-requires-clause-made : goal.find_source-requires-clause-made
find_source-requires-clause-made g c =
    let held = c.requires.held.1 in
    made_more c.requires.held.0 c.args.store.now.cat c.args.store.now.staged held.made held.staged

-- ---- the numbers of vault files have run out

pub returns-in-Some-clause-step : goal.returns-in-Some-clause-step
returns-in-Some-clause-step g c source kept held =
    let o = c.args.outside.now in
    let k = g.K.Sink.sink c.args.sink.now in
    let x = c.args.command.now in
    let s = c.args.store.now in
    let op = repl c.args.path.now c.args.resource.now in
    let r : Result (Result ⊤ Failure) Ending = Err (ending.Worn wear.Vaults c.in-Some.at) in
    let spent = c.spent_vaults.ensures.spent c.in-Some.at c.in-Some.is in
    step_still g.D.Disk.disk g.A.Ambient.ambient g.P.Plugin.plugin source o o k kept s x (running op) c.args.undo.now x s held c.requires.ready.outside.main_last
    c.requires.ready.sink_last refl refl (looks_same g.P.Plugin.plugin o.stores.items) (gave-none (g.A.Ambient.ambient o.ambient))
    (does_op (user_name s.cat x.user) op) r (spent.0, spent.1, still_same (g.D.Disk.disk o.main), still_same k)

pub returns-in-Some-clause-passes : goal.returns-in-Some-clause-passes
returns-in-Some-clause-passes g c =
    let o = c.args.outside.now in
    let r : Result (Result ⊤ Failure) Ending = Err (ending.Worn wear.Vaults c.in-Some.at) in
    passes_none g.D.Disk.disk g.P.Plugin.plugin g.K.Sink.sink (IsErrOf r ending.Disk) (IsErrOf r ending.Sink) o o.ambient c.args.sink.now (λ e. cc) (λ e. cc)

-- ---- its file was found

pub repl-requires-clause-may : goal.repl-requires-clause-may
repl-requires-clause-may g c =
    let cat = c.args.store.now.cat in
    let F : _ → Type 0 = λ r. FindsRepl cat (user_name cat c.args.command.now.user) c.args.path.now c.args.resource.now r in
    subst F c.in-Ok.is c.find_source.ensures

pub repl-requires-clause-spelled : goal.repl-requires-clause-spelled
repl-requires-clause-spelled g c = c.requires.noted c.in-Ok-repl_call.call (c.in-Ok-repl_call.ensures.fits c.requires.word)

pub returns-clause-step : goal.returns-clause-step
returns-clause-step g c source kept held =
    let cat = c.args.store.now.cat in
    let user = user_name cat c.args.command.now.user in
    let F : _ → Type 0 = λ r. FindsRepl cat user c.args.path.now c.args.resource.now r in
    let made = made_more kept cat c.args.store.now.staged held.made held.staged in
    let row_is = repl_is cat user c.args.path.now c.args.resource.now made c.in-Ok.from (subst F c.in-Ok.is c.find_source.ensures) in
    step_noted_as user (repl c.args.path.now c.args.resource.now) _ row_is c.in-Ok-repl_call.ensures.is c.repl.result (c.repl.ensures.step source kept _ held row_is)

pub returns-clause-refused : goal.returns-clause-refused
returns-clause-refused g c r is =
    let cat = c.args.store.now.cat in
    let user = user_name cat c.args.command.now.user in
    let F : _ → Type 0 = λ e. FindsRepl cat user c.args.path.now c.args.resource.now e in
    let held = c.requires.held.1 in
    let made = made_more c.requires.held.0 cat c.args.store.now.staged held.made held.staged in
    let both = sym is ∙ repl_is cat user c.args.path.now c.args.resource.now made c.in-Ok.from (subst F c.in-Ok.is c.find_source.ensures) in
    absurd (cc both)

pub returns-clause-passes : goal.returns-clause-passes
returns-clause-passes g c = c.repl.ensures.passes

pub returns-clause-untouched : goal.returns-clause-untouched
returns-clause-untouched g c place is = c.repl.ensures.untouched place is

-- ---- memory ran out for its call

pub returns-in_default-clause-step : goal.returns-in_default-clause-step
returns-in_default-clause-step g c source kept held =
    let op = repl c.args.path.now c.args.resource.now in
    changes_cut g.D.Disk.disk g.A.Ambient.ambient g.P.Plugin.plugin source c.args.outside.now (g.K.Sink.sink c.args.sink.now) kept c.args.store.now c.args.command.now _ c.args.undo.now held c.requires.ready.outside.main_last c.requires.ready.sink_last
    (does_op (user_name c.args.store.now.cat c.args.command.now.user) op) c.args.store.now

pub returns-in_default-clause-passes : goal.returns-in_default-clause-passes
returns-in_default-clause-passes g c = passes_none g.D.Disk.disk g.P.Plugin.plugin g.K.Sink.sink _ _ c.args.outside.now c.args.outside.now.ambient c.args.sink.now (λ e. cc) (λ e. cc)

-- ---- it is refused

pub returns-in-Err-Refused-clause-step : goal.returns-in-Err-Refused-clause-step
returns-in-Err-Refused-clause-step g c source kept held =
    let cat = c.args.store.now.cat in
    let user = user_name cat c.args.command.now.user in
    let op = repl c.args.path.now c.args.resource.now in
    let F : _ → Type 0 = λ r. FindsRepl cat user c.args.path.now c.args.resource.now r in
    let refused = subst F (c.in-Err-Refused.is ∙ ap Err c.in-Err-Refused.field-0-is) c.find_source.ensures in
    fails_as g.D.Disk.disk g.A.Ambient.ambient g.P.Plugin.plugin source c.args.outside.now (g.K.Sink.sink c.args.sink.now) kept c.args.store.now c.args.command.now _ c.args.undo.now held c.requires.ready.outside.main_last c.requires.ready.sink_last (does_op user op)
    (Refused c.in-Err-Refused.refusal) _ (ap Refused c.in-Err-Refused.refusal-is) (does_refused cat user op c.in-Err-Refused.refusal refused)

pub returns-in-Err-Refused-clause-passes : goal.returns-in-Err-Refused-clause-passes
returns-in-Err-Refused-clause-passes g c = passes_none g.D.Disk.disk g.P.Plugin.plugin g.K.Sink.sink _ _ c.args.outside.now c.args.outside.now.ambient c.args.sink.now (λ e. cc) (λ e. cc)

-- ---- memory ran out

pub returns-in-Err-Memory-clause-step : goal.returns-in-Err-Memory-clause-step
returns-in-Err-Memory-clause-step g c source kept held =
    let op = repl c.args.path.now c.args.resource.now in
    changes_cut g.D.Disk.disk g.A.Ambient.ambient g.P.Plugin.plugin source c.args.outside.now (g.K.Sink.sink c.args.sink.now) kept c.args.store.now c.args.command.now _ c.args.undo.now held c.requires.ready.outside.main_last c.requires.ready.sink_last
    (does_op (user_name c.args.store.now.cat c.args.command.now.user) op) c.args.store.now

pub returns-in-Err-Memory-clause-passes : goal.returns-in-Err-Memory-clause-passes
returns-in-Err-Memory-clause-passes g c = passes_none g.D.Disk.disk g.P.Plugin.plugin g.K.Sink.sink _ _ c.args.outside.now c.args.outside.now.ambient c.args.sink.now (λ e. cc) (λ e. cc)

-- ---- there is a number left

pub returns-clause-number : goal.returns-clause-number
returns-clause-number g c = where_ok c.repl.result (c.spent_vaults.ensures.left c.in-None.is)

pub returns-in-Err-Refused-clause-number : goal.returns-in-Err-Refused-clause-number
returns-in-Err-Refused-clause-number g c = c.spent_vaults.ensures.left c.in-None.is

-- ---- how many moments it takes

pub returns-in-Some-clause-drawn : goal.returns-in-Some-clause-drawn
returns-in-Some-clause-drawn g c each most = omega arith

pub returns-in_default-clause-drawn : goal.returns-in_default-clause-drawn
returns-in_default-clause-drawn g c each most = omega arith

pub returns-in-Err-Refused-clause-drawn : goal.returns-in-Err-Refused-clause-drawn
returns-in-Err-Refused-clause-drawn g c each most = omega arith

pub returns-in-Err-Memory-clause-drawn : goal.returns-in-Err-Memory-clause-drawn
returns-in-Err-Memory-clause-drawn g c each most = omega arith

pub returns-clause-drawn : goal.returns-clause-drawn
returns-clause-drawn g c each most = c.repl.ensures.drawn each most
