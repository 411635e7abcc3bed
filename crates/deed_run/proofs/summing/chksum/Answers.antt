use Rattle.std.proofs.Common.{◌≡◌, Err, sym, ap, ◌∙◌, subst, arith}
use Rattle.grid_model.specs.RowGrids.{user_name}
use Rattle.grid_model.specs.Operations.Table.{chksum}
use Rattle.grid_model.specs.Working.{running}
use Rattle.grid_model.specs.declared.refusal.Failure.TheVariants.{Refused}
use Rattle.grid_deed.proofs.Keeping.{made_more}
use Rattle.plan_object.specs.ChksumPlans.{FindsChksum}
use Rattle.service_run.specs.declared.ending.Ending.TheVariants as ending
use Rattle.service_run.proofs.CallSteps.{ready_still, step_doing}
use Rattle.service_run.proofs.ChangeSteps.{changes_cut, fails_as}
use Rattle.service_run.proofs.Passing.{passes_as, passes_none}
use Rattle.deed_run.specs.Puts.{does_op}
use Rattle.deed_run.proofs.PutSteps.{does_deed, does_refused}
use Rattle.deed_run.proofs.summing.chksum.Goals as goal

pub find_files-requires-clause-made : goal.find_files-requires-clause-made
find_files-requires-clause-made g c =
    let held = c.requires.held.1 in
    made_more c.requires.held.0 c.args.store.now.cat c.args.store.now.staged held.made held.staged

-- ---- its files were found

pub chksum-requires-clause-may : goal.chksum-requires-clause-may
chksum-requires-clause-may g c =
    let cat = c.args.store.now.cat in
    let F : _ → Type 0 = λ r. FindsChksum cat (user_name cat c.args.command.now.user) c.args.path.now r in
    subst F c.in-Ok.is c.find_files.ensures

pub chksum-requires-clause-ready : goal.chksum-requires-clause-ready
chksum-requires-clause-ready g c = ready_still g.D.Disk.disk g.P.Plugin.plugin g.K.Sink.sink _ (record { outside = c.args.outside.now; sink = c.args.sink.now }) c.requires.ready

pub returns-clause-step : goal.returns-clause-step
returns-clause-step g c source kept held =
    let cat = c.args.store.now.cat in
    let user = user_name cat c.args.command.now.user in
    let op = chksum c.args.path.now in
    let F : _ → Type 0 = λ r. FindsChksum cat user c.args.path.now r in
    let may = subst F c.in-Ok.is c.find_files.ensures in
    step_doing (does_op user op) (does_deed cat user op may.of may.row_is) c.chksum.result (c.chksum.ensures.step source kept (running op) c.args.undo.now may.of held may.row_is)

pub returns-clause-refused : goal.returns-clause-refused
returns-clause-refused g c r is =
    let cat = c.args.store.now.cat in
    let F : _ → Type 0 = λ e. FindsChksum cat (user_name cat c.args.command.now.user) c.args.path.now e in
    let both = sym is ∙ (subst F c.in-Ok.is c.find_files.ensures).row_is in
    absurd (cc both)

pub returns-clause-passes : goal.returns-clause-passes
returns-clause-passes g c =
    passes_as g.D.Disk.disk g.P.Plugin.plugin g.K.Sink.sink ⊥ ⊥ _ _ c.args.outside.now c.chksum.new.outside c.args.outside.now.ambient c.args.sink.now c.args.sink.now (λ e. absurd e)
    (λ is. (let same : ending.Disk ≡ ending.Memory = c.chksum.ensures.errors ending.Disk is in cc)) (λ is. (let same : ending.Sink ≡ ending.Memory = c.chksum.ensures.errors ending.Sink is in cc)) c.chksum.ensures.passes

pub returns-clause-drawn : goal.returns-clause-drawn
returns-clause-drawn g c each most = omega (arith, c.chksum.ensures.drawn)

-- ---- it is refused

pub returns-in-Err-Refused-clause-step : goal.returns-in-Err-Refused-clause-step
returns-in-Err-Refused-clause-step g c source kept held =
    let cat = c.args.store.now.cat in
    let user = user_name cat c.args.command.now.user in
    let op = chksum c.args.path.now in
    let F : _ → Type 0 = λ r. FindsChksum cat user c.args.path.now r in
    let refused = subst F (c.in-Err-Refused.is ∙ ap Err c.in-Err-Refused.field-0-is) c.find_files.ensures in
    fails_as g.D.Disk.disk g.A.Ambient.ambient g.P.Plugin.plugin source c.args.outside.now (g.K.Sink.sink c.args.sink.now) kept c.args.store.now c.args.command.now _ c.args.undo.now held c.requires.ready.outside.main_last c.requires.ready.sink_last (does_op user op)
    (Refused c.in-Err-Refused.refusal) _ (ap Refused c.in-Err-Refused.refusal-is) (does_refused cat user op c.in-Err-Refused.refusal refused)

pub returns-in-Err-Refused-clause-passes : goal.returns-in-Err-Refused-clause-passes
returns-in-Err-Refused-clause-passes g c = passes_none g.D.Disk.disk g.P.Plugin.plugin g.K.Sink.sink _ _ c.args.outside.now c.args.outside.now.ambient c.args.sink.now (λ e. cc) (λ e. cc)

-- ---- memory ran out

pub returns-in-Err-Memory-clause-step : goal.returns-in-Err-Memory-clause-step
returns-in-Err-Memory-clause-step g c source kept held =
    let op = chksum c.args.path.now in
    changes_cut g.D.Disk.disk g.A.Ambient.ambient g.P.Plugin.plugin source c.args.outside.now (g.K.Sink.sink c.args.sink.now) kept c.args.store.now c.args.command.now _ c.args.undo.now held c.requires.ready.outside.main_last c.requires.ready.sink_last
    (does_op (user_name c.args.store.now.cat c.args.command.now.user) op) c.args.store.now

pub returns-in-Err-Memory-clause-passes : goal.returns-in-Err-Memory-clause-passes
returns-in-Err-Memory-clause-passes g c = passes_none g.D.Disk.disk g.P.Plugin.plugin g.K.Sink.sink _ _ c.args.outside.now c.args.outside.now.ambient c.args.sink.now (λ e. cc) (λ e. cc)

pub returns-in-Err-Refused-clause-drawn : goal.returns-in-Err-Refused-clause-drawn
returns-in-Err-Refused-clause-drawn g c each most = omega arith

pub returns-in-Err-Memory-clause-drawn : goal.returns-in-Err-Memory-clause-drawn
returns-in-Err-Memory-clause-drawn g c each most = omega arith
