use Rattle.std.proofs.Common.{Ok, Err, sym, ap, ◌∙◌, subst}
use Rattle.std.specs.Prelude.{IsTrue}
use Rattle.grid_model.specs.Applying.{IsMade, is_user}
use Rattle.grid_model.specs.Doing.{do_operation}
use Rattle.grid_model.specs.RowGrids.{grid_of, user_name}
use Rattle.grid_model.specs.Rows.{Cat}
use Rattle.grid_model.specs.declared.plans.PlanError.TheVariants as error
use Rattle.grid_model.specs.declared.refusal.Failure.TheVariants as failure
use Rattle.grid_journal.specs.Journal.{AreSpelled}
use Rattle.grid_deed.proofs.Keeping.{made_more}
use Rattle.size_laws.proofs.SmallRows.{operations_keep_within}
use Rattle.service_run.proofs.ChangeSteps.{changes_cut, fails_as}
use Rattle.row_run.proofs.Planned.{leads_on, makes_grid, planned_as, quiet_changes, refused_makes_none, refuses}
use Rattle.row_run.proofs.changing.change_rows.Goals as goal

pub is_spelled-requires : goal.is_spelled-requires
is_spelled-requires g c = record { sound = c.requires.held.1.sound }

pub plan-requires-clause-made : goal.plan-requires-clause-made
plan-requires-clause-made g c =
    let store = c.args.store.now in
    subst IsMade (sym c.tables.ensures) (made_more c.requires.held.0 store.cat store.staged c.requires.held.1.made c.requires.held.1.staged)

pub plan-requires-clause-user : goal.plan-requires-clause-user
plan-requires-clause-user g c =
    let U : Cat → Type 0 = λ x. IsTrue (is_user x c.args.command.now.user) in
    subst U (sym c.tables.ensures) c.requires.user

pub plan-requires-clause-spelled : goal.plan-requires-clause-spelled
plan-requires-clause-spelled g c =
    let S : Cat → Type 0 = λ x. AreSpelled x.triples in
    subst S (sym c.tables.ensures) c.is_spelled.ensures

-- ---- memory ran out

pub returns-in-Err-Memory-clause-step : goal.returns-in-Err-Memory-clause-step
returns-in-Err-Memory-clause-step g c source kept op call undo held verb =
    let x = c.args.command.now in
    let store = c.args.store.now in
    changes_cut g.D.Disk.disk g.A.Ambient.ambient g.P.Plugin.plugin source c.args.outside.now (g.K.Sink.sink c.args.sink.now) kept store x call undo held c.requires.ready.outside.main_last c.requires.ready.sink_last (do_operation call (user_name store.cat x.user) op) store

-- ---- it is refused

pub returns-in-Err-Refused-clause-step : goal.returns-in-Err-Refused-clause-step
returns-in-Err-Refused-clause-step g c source kept op call undo held verb =
    let x = c.args.command.now in
    let store = c.args.store.now in
    let name = user_name store.cat x.user in
    let r = c.in-Err-Refused.refusal in
    let is = planned_as store.cat c.tables.result.now c.tables.ensures x.user c.args.verb.now op c.plan.result (Err (error.Refused r)) (c.in-Err-Refused.is ∙ ap Err c.in-Err-Refused.field-0-is) c.plan.ensures verb in
    fails_as g.D.Disk.disk g.A.Ambient.ambient g.P.Plugin.plugin source c.args.outside.now (g.K.Sink.sink c.args.sink.now) kept store x call undo held c.requires.ready.outside.main_last c.requires.ready.sink_last (do_operation call name op)
    (failure.Refused r) _ (ap failure.Refused c.in-Err-Refused.refusal-is) (refuses call name op store.cat r is)

-- ---- changes

pub change_if_any-requires-clause-led : goal.change_if_any-requires-clause-led
change_if_any-requires-clause-led g c =
    let x = c.args.command.now in
    let cat = c.args.store.now.cat in
    let its = c.requires.verb in
    let p = planned_as cat c.tables.result.now c.tables.ensures x.user c.args.verb.now its.0 c.plan.result (Ok c.in-Ok.deltas) c.in-Ok.is c.plan.ensures its.1 in
    (p.after, leads_on cat (user_name cat x.user) its.0 c.in-Ok.deltas p)

pub returns-in-Ok-clause-step : goal.returns-in-Ok-clause-step
returns-in-Ok-clause-step g c source kept op call undo held verb =
    let x = c.args.command.now in
    let cat = c.args.store.now.cat in
    let name = user_name cat x.user in
    let p = planned_as cat c.tables.result.now c.tables.ensures x.user c.args.verb.now op c.plan.result (Ok c.in-Ok.deltas) c.in-Ok.is c.plan.ensures verb in
    c.change_if_any.ensures.step source kept p.after call undo (do_operation call name op) held (leads_on cat name op c.in-Ok.deltas p) (makes_grid call name op cat c.in-Ok.deltas p)
    (λ within. (operations_keep_within (grid_of cat) name op within).0 (grid_of p.after) p.row_is)

pub returns-in-Ok-clause-refused : goal.returns-in-Ok-clause-refused
returns-in-Ok-clause-refused g c op r verb is =
    let x = c.args.command.now in
    let cat = c.args.store.now.cat in
    let p = planned_as cat c.tables.result.now c.tables.ensures x.user c.args.verb.now op c.plan.result (Ok c.in-Ok.deltas) c.in-Ok.is c.plan.ensures verb in
    absurd (refused_makes_none cat (user_name cat x.user) op c.in-Ok.deltas r p is)

pub returns-in-Ok-clause-quiet : goal.returns-in-Ok-clause-quiet
returns-in-Ok-clause-quiet g c =
    let x = c.args.command.now in
    let store = c.args.store.now in
    let its = c.requires.verb in
    let p = planned_as store.cat c.tables.result.now c.tables.ensures x.user c.args.verb.now its.0 c.plan.result (Ok c.in-Ok.deltas) c.in-Ok.is c.plan.ensures its.1 in
    quiet_changes store c.change_if_any.new.store (user_name store.cat x.user) its.0 c.in-Ok.deltas p c.change_if_any.result
    c.change_if_any.ensures.none (c.change_if_any.ensures.grid p.after (leads_on store.cat (user_name store.cat x.user) its.0 c.in-Ok.deltas p))
