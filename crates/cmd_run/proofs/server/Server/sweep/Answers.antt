use Rattle.std.proofs.Common.{◌≡◌, true, false, IsTrue, refl, sym, subst, ◌∙◌}
use Rattle.grid_model.specs.Levels.{is_admin}
use Rattle.grid_model.specs.Maps.{get}
use Rattle.grid_model.specs.Orders.{sweeps}
use Rattle.grid_model.specs.Rows.{Cat, has_user}
use Rattle.grid_model.specs.RowGrids.{grid_of, user_name}
use Rattle.grid_model.specs.Runs.{Request}
use Rattle.grid_model.specs.Working.{well}
use Rattle.grid_model.specs.declared.replies.End.TheVariants as end
use Rattle.grid_model.specs.declared.refusal.Refusal.TheVariants as refusal
use Rattle.plan_base.proofs.AtPaths.{user_known}
use Rattle.run_laws.specs.Steps.{RemovesNoFile}
use Rattle.cmd_run.specs.Fits.{state_of}
use Rattle.cmd_run.specs.Obeys.{SaysOnly}
use Rattle.cmd_run.proofs.LoginLemmas.{says_no_login, says_swept, says_not_admin}
use Rattle.cmd_run.proofs.NotRefused.{well_not_refused}
use Rattle.run_laws.specs.Around.{around}
use Rattle.cmd_run.proofs.SweptFew.{refused_few, swept_few}
use Rattle.cmd_run.proofs.server.Server.sweep.Goals as goal

pub returns-in_default-clause-obeys : goal.returns-in_default-clause-obeys
returns-in_default-clause-obeys g c = λ source request is.
    let s = c.args.self.now in
    let Q : Request → Type 0 = λ r. SaysOnly (state_of s) r (end.Refused refusal.NoLogin) (state_of s) in
    c.say.ensures.obeys source request s refl (subst Q (sym is) (says_no_login s c.args.session sweeps (sym c.in_default.ensures) refl))

pub returns-in_default-clause-none_waits : goal.returns-in_default-clause-none_waits
returns-in_default-clause-none_waits g c = λ told settled t main d late left stands. (c.say.ensures.remembers told settled t main d late left stands).0

pub returns-in_default-clause-idle : goal.returns-in_default-clause-idle
returns-in_default-clause-idle g c = λ request is refused. (c.say.ensures.rows, c.say.ensures.stores)

pub is_admin-requires-clause-user : goal.is_admin-requires-clause-user
is_admin-requires-clause-user g c =
    let U : Cat → Type 0 = λ x. IsTrue (has_user x c.in-Some.user) in
    subst U (sym c.tables.ensures) (user_known c.args.self.now.store.cat c.in-Some.user
    (c.requires.fits.users c.args.session c.in-Some.user (sym c.in-Some.ensures)))

pub returns-then-not-is_admin-clause-obeys : goal.returns-then-not-is_admin-clause-obeys
returns-then-not-is_admin-clause-obeys g c = λ source request is.
    let s = c.args.self.now in
    let user = c.in-Some.user in
    let A : Cat → Type 0 = λ x. is_admin (get (grid_of x).users (user_name x user)) ≡ false in
    let other = subst A c.tables.ensures (sym c.is_admin.ensures ∙ c.if-not-is_admin.true) in
    let Q : Request → Type 0 = λ r. SaysOnly (state_of s) r (end.Refused refusal.NotAdmin) (state_of s) in
    c.say-then-not-is_admin.ensures.obeys source request s refl (subst Q (sym is) (says_not_admin s c.args.session user (sym c.in-Some.ensures) other))

pub returns-then-not-is_admin-clause-none_waits : goal.returns-then-not-is_admin-clause-none_waits
returns-then-not-is_admin-clause-none_waits g c =
    λ told settled t main d late left stands. (c.say-then-not-is_admin.ensures.remembers told settled t main d late left stands).0

pub returns-then-not-is_admin-clause-idle : goal.returns-then-not-is_admin-clause-idle
returns-then-not-is_admin-clause-idle g c = λ request is refused. (c.say-then-not-is_admin.ensures.rows, c.say-then-not-is_admin.ensures.stores)

pub returns-clause-obeys : goal.returns-clause-obeys
returns-clause-obeys g c = λ source request is.
    let s = c.args.self.now in
    let user = c.in-Some.user in
    let A : Cat → Type 0 = λ x. is_admin (get (grid_of x).users (user_name x user)) ≡ true in
    let admin = subst A c.tables.ensures (sym c.is_admin.ensures ∙ c.if-not-is_admin.false) in
    let Q : Request → Type 0 = λ r. SaysOnly (state_of s) r well (state_of s) in
    let N : Request → Type 0 = λ r. ¬ RemovesNoFile r in
    c.sweep_all.ensures.obeys source request (subst Q (sym is) (says_swept s c.args.session user (sym c.in-Some.ensures) admin)) (subst N (sym is) (λ x. x))

pub returns-clause-idle : goal.returns-clause-idle
returns-clause-idle g c = λ request is refused.
    let s = c.args.self.now in
    let user = c.in-Some.user in
    let A : Cat → Type 0 = λ x. is_admin (get (grid_of x).users (user_name x user)) ≡ true in
    let admin = subst A c.tables.ensures (sym c.is_admin.ensures ∙ c.if-not-is_admin.false) in
    let Q : Request → Type 0 = λ r. SaysOnly (state_of s) r well (state_of s) in
    absurd (well_not_refused (state_of s) request (subst Q (sym is) (says_swept s c.args.session user (sym c.in-Some.ensures) admin)) refused)

pub returns-in_default-clause-few : goal.returns-in_default-clause-few
returns-in_default-clause-few g c = λ source request is.
    let s = c.args.self.now in
    refused_few (around g.D.Disk.disk g.A.Ambient.ambient g.P.Plugin.plugin c.args.outside.now (g.K.Sink.sink c.args.sink.now) source)
    (around g.D.Disk.disk g.A.Ambient.ambient g.P.Plugin.plugin c.say.new.outside (g.K.Sink.sink c.say.new.sink) source) s c.args.session request is
    refusal.NoLogin (state_of s) (says_no_login s c.args.session sweeps (sym c.in_default.ensures) refl) c.say.result s

pub returns-then-not-is_admin-clause-few : goal.returns-then-not-is_admin-clause-few
returns-then-not-is_admin-clause-few g c = λ source request is.
    let s = c.args.self.now in
    let user = c.in-Some.user in
    let A : Cat → Type 0 = λ x. is_admin (get (grid_of x).users (user_name x user)) ≡ false in
    let other = subst A c.tables.ensures (sym c.is_admin.ensures ∙ c.if-not-is_admin.true) in
    refused_few (around g.D.Disk.disk g.A.Ambient.ambient g.P.Plugin.plugin c.args.outside.now (g.K.Sink.sink c.args.sink.now) source)
    (around g.D.Disk.disk g.A.Ambient.ambient g.P.Plugin.plugin c.say-then-not-is_admin.new.outside (g.K.Sink.sink c.say-then-not-is_admin.new.sink) source) s
    c.args.session request is
    refusal.NotAdmin (state_of s) (says_not_admin s c.args.session user (sym c.in-Some.ensures) other) c.say-then-not-is_admin.result s

pub returns-clause-few : goal.returns-clause-few
returns-clause-few g c = λ source request is.
    swept_few (around g.D.Disk.disk g.A.Ambient.ambient g.P.Plugin.plugin c.args.outside.now (g.K.Sink.sink c.args.sink.now) source)
    (around g.D.Disk.disk g.A.Ambient.ambient g.P.Plugin.plugin c.sweep_all.new.outside (g.K.Sink.sink c.sweep_all.new.sink) source) c.args.self.now
    c.args.session request is
    c.sweep_all.result c.sweep_all.new.self (c.sweep_all.ensures.few source)
