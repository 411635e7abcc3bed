use Rattle.std.proofs.Common.{Ok, Err, refl, sym, ap, subst, ◌∙◌}
use Rattle.grid_model.specs.Orders.{lists}
use Rattle.grid_model.specs.Rows.{Cat}
use Rattle.grid_model.specs.RowGrids.{user_name}
use Rattle.grid_model.specs.Runs.{Request}
use Rattle.grid_model.specs.Working.{well}
use Rattle.grid_model.specs.declared.replies.End.TheVariants as end
use Rattle.grid_model.specs.declared.refusal.Refusal.TheVariants as refusal
use Rattle.grid_model.specs.declared.plans.PlanError.TheVariants.{Refused}
use Rattle.plan_list.specs.Listing.{Lists}
use Rattle.cmd_run.specs.Fits.{state_of}
use Rattle.cmd_run.specs.Obeys.{SaysOnly, SaysRows}
use Rattle.cmd_run.proofs.KeepLemmas.{keep_still}
use Rattle.cmd_run.proofs.LoginLemmas.{says_no_login}
use Rattle.cmd_run.proofs.Listings.{says_listed, says_unlisted}
use Rattle.cmd_run.proofs.Remembering.{still_remembers}
use Rattle.cmd_run.proofs.SayLemmas.{unsaid}
use Rattle.cmd_run.proofs.server.Server.list.Goals as goal

pub returns-in_default-clause-obeys : goal.returns-in_default-clause-obeys
returns-in_default-clause-obeys g c = λ source request is.
    let s = c.args.self.now in
    let Q : Request → Type 0 = λ r. SaysOnly (state_of s) r (end.Refused refusal.NoLogin) (state_of s) in
    c.say.ensures.obeys source request s refl (subst Q (sym is) (says_no_login s c.args.session (lists c.args.path.now) (sym c.in_default.ensures) refl))

pub returns-in-Ok-clause-obeys : goal.returns-in-Ok-clause-obeys
returns-in-Ok-clause-obeys g c = λ source request is.
    let s = c.args.self.now in
    let user = c.in-Some.user in
    let P : Cat → Type 0 = λ x. Lists x (user_name x user) c.args.path.now (Ok c.in-Ok.rows) in
    let its = subst P c.tables.ensures c.in-Ok.ensures in
    let Q : Request → Type 0 = λ r. SaysRows (state_of s) r c.in-Ok.rows well (state_of s) in
    c.show.ensures.obeys source request s refl (subst Q (sym is) (says_listed s c.args.session user (sym c.in-Some.ensures) c.args.path.now c.in-Ok.rows its.0))

pub returns-in-Err-Refused-clause-obeys : goal.returns-in-Err-Refused-clause-obeys
returns-in-Err-Refused-clause-obeys g c = λ source request is.
    let s = c.args.self.now in
    let user = c.in-Some.user in
    let r = c.in-Err-Refused.refusal in
    let F : _ → Type 0 = λ o. Lists c.tables.result.now (user_name c.tables.result.now user) c.args.path.now o in
    let P : Cat → Type 0 = λ x. Lists x (user_name x user) c.args.path.now (Err (Refused r)) in
    let its = subst P c.tables.ensures (subst F (c.in-Err-Refused.is ∙ ap Err c.in-Err-Refused.field-0-is) c.list_rows.ensures) in
    let Q : Request → Type 0 = λ q. SaysOnly (state_of s) q (end.Refused r) (state_of s) in
    c.say-in-Err-Refused.ensures.obeys source request s refl
    (subst Q (sym is) (says_unlisted s c.args.session user (sym c.in-Some.ensures) c.args.path.now r its))

pub returns-in-Err-Memory-clause-obeys : goal.returns-in-Err-Memory-clause-obeys
returns-in-Err-Memory-clause-obeys g c = λ source request is.
    unsaid g.D.Disk.disk g.A.Ambient.ambient g.P.Plugin.plugin source c.args.outside.now (g.K.Sink.sink c.args.sink.now) c.args.self.now c.args.number request
    c.args.self.now
    c.requires.fits.held c.requires.ready.outside.main_last c.requires.ready.sink_last

pub returns-in-Err-Memory-clause-whole : goal.returns-in-Err-Memory-clause-whole
returns-in-Err-Memory-clause-whole g c =
    keep_still g.P.Plugin.plugin c.args.self.now.store.cat c.args.outside.now.moments (g.D.Disk.disk c.args.outside.now.main) c.args.self.now.store
    c.args.outside.now.stores.items
    c.requires.fits.held c.requires.ready.outside.main_last

pub returns-in-Err-Memory-clause-remembers : goal.returns-in-Err-Memory-clause-remembers
returns-in-Err-Memory-clause-remembers g c =
    let main = c.args.outside.now.main in
    still_remembers g.D.Disk.disk main main c.args.self.now.store c.args.outside.now.moments refl c.requires.ready.outside.main_last c.requires.fits.held
    c.requires.fits.pending
