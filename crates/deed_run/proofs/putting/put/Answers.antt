use Rattle.std.proofs.Common.{Err, length, refl, sym, ap, ◌∙◌, subst, arith}
use Rattle.std.specs.Prelude.{⊤, Result, IsErrOf}
use Rattle.grid_outside.specs.declared.outside.Wear.TheVariants as wear
use Rattle.grid_model.specs.Working.{running}
use Rattle.grid_model.specs.declared.refusal.Failure.{Failure}
use Rattle.run_laws.proofs.Draws.{gave-none}
use Rattle.service_run.specs.declared.ending.Ending.{Ending}
use Rattle.service_run.specs.declared.ending.Ending.TheVariants as ending
use Rattle.service_run.proofs.DeedSteps.{looks_same}
use Rattle.service_run.proofs.StillSteps.{step_still, still_same}
use Rattle.grid_model.specs.RowGrids.{user_name}
use Rattle.grid_model.specs.Operations.Table.{put}
use Rattle.grid_model.specs.declared.refusal.Failure.TheVariants.{Refused}
use Rattle.grid_deed.proofs.Keeping.{made_more}
use Rattle.plan_object.specs.Writing.{FindsTargets, Wanted}
use Rattle.service_run.proofs.CallSteps.{step_doing}
use Rattle.service_run.proofs.ChangeSteps.{changes_cut, fails_as}
use Rattle.service_run.proofs.Passing.{passes_none}
use Rattle.deed_run.specs.Puts.{does_op}
use Rattle.deed_run.proofs.PutSteps.{does_deed, does_refused, goes_deed, where_ok}
use Rattle.deed_run.proofs.putting.put.Goals as goal

pub find_targets-requires-clause-made : goal.find_targets-requires-clause-made
find_targets-requires-clause-made g c =
    let held = c.requires.held.1 in
    made_more c.requires.held.0 c.args.store.now.cat c.args.store.now.staged held.made held.staged

pub put_found-requires-clause-vault : goal.put_found-requires-clause-vault
put_found-requires-clause-vault g c = c.spent_vaults.ensures.left c.in-None.is

pub put_found-requires-clause-may : goal.put_found-requires-clause-may
put_found-requires-clause-may g c =
    let cat = c.args.store.now.cat in
    let user = user_name cat c.args.command.now.user in
    let body = c.args.body.now in
    let w : Wanted = record { path = c.args.path.now; resource = c.args.resource.now; mode = c.args.mode; size = length body } in
    let F : _ → Type 0 = λ r. FindsTargets cat user w 0 r in
    goes_deed cat user w 0 _ (subst F c.in-Ok.is c.find_targets.ensures) body refl

-- ---- the numbers of vault files have run out

pub returns-in-Some-clause-step : goal.returns-in-Some-clause-step
returns-in-Some-clause-step g c source kept held =
    let o = c.args.outside.now in
    let k = g.K.Sink.sink c.args.sink.now in
    let x = c.args.command.now in
    let s = c.args.store.now in
    let op = put c.args.path.now c.args.resource.now c.args.mode c.args.body.now in
    let r : Result (Result ⊤ Failure) Ending = Err (ending.Worn wear.Vaults c.in-Some.at) in
    let spent = c.spent_vaults.ensures.spent c.in-Some.at c.in-Some.is in
    step_still g.D.Disk.disk g.A.Ambient.ambient g.P.Plugin.plugin source o o k kept s x (running op) c.args.undo.now x s held c.requires.ready.outside.main_last
    c.requires.ready.sink_last refl refl (looks_same g.P.Plugin.plugin o.stores.items) (gave-none (g.A.Ambient.ambient o.ambient))
    (does_op (user_name s.cat x.user) op) r (spent.0, spent.1, still_same (g.D.Disk.disk o.main), still_same k)

pub returns-in-Some-clause-passes : goal.returns-in-Some-clause-passes
returns-in-Some-clause-passes g c =
    let o = c.args.outside.now in
    let r : Result (Result ⊤ Failure) Ending = Err (ending.Worn wear.Vaults c.in-Some.at) in
    passes_none g.D.Disk.disk g.P.Plugin.plugin g.K.Sink.sink (IsErrOf r ending.Disk) (IsErrOf r ending.Sink) o o.ambient c.args.sink.now (λ e. cc) (λ e. cc)

-- ---- it goes to some leaves

pub returns-clause-step : goal.returns-clause-step
returns-clause-step g c source kept held =
    let cat = c.args.store.now.cat in
    let user = user_name cat c.args.command.now.user in
    let op = put c.args.path.now c.args.resource.now c.args.mode c.args.body.now in
    let w : Wanted = record { path = c.args.path.now; resource = c.args.resource.now; mode = c.args.mode; size = length c.args.body.now } in
    let F : _ → Type 0 = λ r. FindsTargets cat user w 0 r in
    let may = goes_deed cat user w 0 _ (subst F c.in-Ok.is c.find_targets.ensures) c.args.body.now refl in
    step_doing (does_op user op) (does_deed cat user op may.0 may.1) c.put_found.result (c.put_found.ensures.step source kept may.0 held may.1)

pub returns-clause-refused : goal.returns-clause-refused
returns-clause-refused g c r is =
    let cat = c.args.store.now.cat in
    let user = user_name cat c.args.command.now.user in
    let w : Wanted = record { path = c.args.path.now; resource = c.args.resource.now; mode = c.args.mode; size = length c.args.body.now } in
    let F : _ → Type 0 = λ e. FindsTargets cat user w 0 e in
    let both = sym is ∙ (goes_deed cat user w 0 _ (subst F c.in-Ok.is c.find_targets.ensures) c.args.body.now refl).1 in
    absurd (cc both)

pub returns-clause-passes : goal.returns-clause-passes
returns-clause-passes g c = c.put_found.ensures.passes

-- ---- it is refused

pub returns-in-Err-Refused-clause-step : goal.returns-in-Err-Refused-clause-step
returns-in-Err-Refused-clause-step g c source kept held =
    let cat = c.args.store.now.cat in
    let user = user_name cat c.args.command.now.user in
    let op = put c.args.path.now c.args.resource.now c.args.mode c.args.body.now in
    let w : Wanted = record { path = c.args.path.now; resource = c.args.resource.now; mode = c.args.mode; size = length c.args.body.now } in
    let F : _ → Type 0 = λ r. FindsTargets cat user w 0 r in
    let refused = subst F (c.in-Err-Refused.is ∙ ap Err c.in-Err-Refused.field-0-is) c.find_targets.ensures in
    fails_as g.D.Disk.disk g.A.Ambient.ambient g.P.Plugin.plugin source c.args.outside.now (g.K.Sink.sink c.args.sink.now) kept c.args.store.now c.args.command.now _ c.args.undo.now held c.requires.ready.outside.main_last c.requires.ready.sink_last (does_op user op)
    (Refused c.in-Err-Refused.refusal) _ (ap Refused c.in-Err-Refused.refusal-is) (does_refused cat user op c.in-Err-Refused.refusal (refused c.args.body.now refl))

pub returns-in-Err-Refused-clause-passes : goal.returns-in-Err-Refused-clause-passes
returns-in-Err-Refused-clause-passes g c = passes_none g.D.Disk.disk g.P.Plugin.plugin g.K.Sink.sink _ _ c.args.outside.now c.args.outside.now.ambient c.args.sink.now (λ e. cc) (λ e. cc)

-- ---- memory ran out

pub returns-in-Err-Memory-clause-step : goal.returns-in-Err-Memory-clause-step
returns-in-Err-Memory-clause-step g c source kept held =
    let op = put c.args.path.now c.args.resource.now c.args.mode c.args.body.now in
    changes_cut g.D.Disk.disk g.A.Ambient.ambient g.P.Plugin.plugin source c.args.outside.now (g.K.Sink.sink c.args.sink.now) kept c.args.store.now c.args.command.now _ c.args.undo.now held c.requires.ready.outside.main_last c.requires.ready.sink_last
    (does_op (user_name c.args.store.now.cat c.args.command.now.user) op) c.args.store.now

pub returns-in-Err-Memory-clause-passes : goal.returns-in-Err-Memory-clause-passes
returns-in-Err-Memory-clause-passes g c = passes_none g.D.Disk.disk g.P.Plugin.plugin g.K.Sink.sink _ _ c.args.outside.now c.args.outside.now.ambient c.args.sink.now (λ e. cc) (λ e. cc)

-- ---- there is a number left

pub returns-clause-number : goal.returns-clause-number
returns-clause-number g c = where_ok c.put_found.result (c.spent_vaults.ensures.left c.in-None.is)

pub returns-in-Err-Refused-clause-number : goal.returns-in-Err-Refused-clause-number
returns-in-Err-Refused-clause-number g c = c.spent_vaults.ensures.left c.in-None.is

-- ---- how many moments it takes

pub returns-in-Some-clause-drawn : goal.returns-in-Some-clause-drawn
returns-in-Some-clause-drawn g c each most = omega arith

pub returns-in-Err-Refused-clause-drawn : goal.returns-in-Err-Refused-clause-drawn
returns-in-Err-Refused-clause-drawn g c each most = omega arith

pub returns-in-Err-Memory-clause-drawn : goal.returns-in-Err-Memory-clause-drawn
returns-in-Err-Memory-clause-drawn g c each most = omega arith

pub returns-clause-drawn : goal.returns-clause-drawn
returns-clause-drawn g c each most = c.put_found.ensures.drawn each most
