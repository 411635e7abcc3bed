use Rattle.std.proofs.Common.{◌≡◌, Ok, Err, refl, sym, ap, subst, ◌∙◌}
use Rattle.grid_model.specs.Grid.{Thing}
use Rattle.grid_model.specs.Orders.{lists_triples}
use Rattle.grid_model.specs.Rows.{Cat}
use Rattle.grid_model.specs.RowGrids.{user_name}
use Rattle.grid_model.specs.Runs.{Request}
use Rattle.grid_model.specs.Working.{well}
use Rattle.grid_model.specs.declared.replies.End.TheVariants as end
use Rattle.grid_model.specs.declared.refusal.Refusal.TheVariants as refusal
use Rattle.grid_model.specs.declared.plans.PlanError.TheVariants.{Refused}
use Rattle.plan_meta.specs.Showing.{ShowsTriples}
use Rattle.plan_meta.specs.Things.{thing_by}
use Rattle.cmd_run.specs.Fits.{state_of}
use Rattle.cmd_run.specs.Obeys.{SaysOnly, SaysRows}
use Rattle.cmd_run.proofs.KeepLemmas.{keep_still}
use Rattle.cmd_run.proofs.Listings.{says_told, says_untold}
use Rattle.cmd_run.proofs.LoginLemmas.{says_no_login}
use Rattle.cmd_run.proofs.Remembering.{still_remembers}
use Rattle.cmd_run.proofs.SayLemmas.{unsaid}
use Rattle.cmd_run.proofs.server.Server.show_tags.Goals as goal

pub returns-in_default-clause-obeys : goal.returns-in_default-clause-obeys
returns-in_default-clause-obeys g c = λ source request asks.
    let s = c.args.self.now in
    let Q : Request → Type 0 = λ r. SaysOnly (state_of s) r (end.Refused refusal.NoLogin) (state_of s) in
    c.say.ensures.obeys source request s refl (subst Q (sym asks.2) (says_no_login s c.args.session (lists_triples asks.0) (sym c.in_default.ensures) refl))

pub returns-in-Err-Memory-clause-obeys : goal.returns-in-Err-Memory-clause-obeys
returns-in-Err-Memory-clause-obeys g c = λ source request asks.
    unsaid g.D.Disk.disk g.A.Ambient.ambient g.P.Plugin.plugin source c.args.outside.now (g.K.Sink.sink c.args.sink.now) c.args.self.now c.args.number request
    c.args.self.now
    c.requires.fits.held c.requires.ready.outside.main_last c.requires.ready.sink_last

pub returns-in-Err-Memory-clause-whole : goal.returns-in-Err-Memory-clause-whole
returns-in-Err-Memory-clause-whole g c =
    keep_still g.P.Plugin.plugin c.args.self.now.store.cat c.args.outside.now.moments (g.D.Disk.disk c.args.outside.now.main) c.args.self.now.store
    c.args.outside.now.stores.items
    c.requires.fits.held c.requires.ready.outside.main_last

pub returns-in-Err-Memory-clause-remembers : goal.returns-in-Err-Memory-clause-remembers
returns-in-Err-Memory-clause-remembers g c =
    let main = c.args.outside.now.main in
    still_remembers g.D.Disk.disk main main c.args.self.now.store c.args.outside.now.moments refl c.requires.ready.outside.main_last c.requires.fits.held
    c.requires.fits.pending

pub unreachable-requires : goal.unreachable-requires
unreachable-requires g c = c.in-Err-BadPath.ensures.none (λ e. cc (e, c.in-Err-BadPath.field-0-is)) c.requires.thing.0 c.requires.thing.1

pub returns-in-Ok-list_triples-clause-obeys : goal.returns-in-Ok-list_triples-clause-obeys
returns-in-Ok-list_triples-clause-obeys g c = λ source request asks.
    let s = c.args.self.now in
    let user = c.in-Some.user in
    let thing = thing_by c.in-Ok.thing in
    let P : Cat → Type 0 = λ x. ShowsTriples x (user_name x user) thing (Ok c.in-Ok-list_triples.rows) in
    let its = subst P c.tables.ensures c.in-Ok-list_triples.ensures in
    let same = c.in-Ok.ensures.alone asks.0 asks.1 in
    let Q : Request → Type 0 = λ r. SaysRows (state_of s) r c.in-Ok-list_triples.rows well (state_of s) in
    let is : request ≡ Ok (c.args.session, lists_triples thing) = asks.2 ∙ ap (λ (x : Thing). Ok (c.args.session, lists_triples x)) same in
    c.show.ensures.obeys source request s refl (subst Q (sym is)
    (says_told s c.args.session user (sym c.in-Some.ensures) thing c.in-Ok-list_triples.rows its.0))

pub returns-in-Err-Refused-clause-obeys : goal.returns-in-Err-Refused-clause-obeys
returns-in-Err-Refused-clause-obeys g c = λ source request asks.
    let s = c.args.self.now in
    let user = c.in-Some.user in
    let thing = thing_by c.in-Ok.thing in
    let r = c.in-Err-Refused.refusal in
    let F : _ → Type 0 = λ o. ShowsTriples c.tables.result.now (user_name c.tables.result.now user) thing o in
    let P : Cat → Type 0 = λ x. ShowsTriples x (user_name x user) thing (Err (Refused r)) in
    let its = subst P c.tables.ensures (subst F (c.in-Err-Refused.is ∙ ap Err c.in-Err-Refused.field-0-is) c.list_triples.ensures) in
    let same = c.in-Ok.ensures.alone asks.0 asks.1 in
    let Q : Request → Type 0 = λ q. SaysOnly (state_of s) q (end.Refused r) (state_of s) in
    let is : request ≡ Ok (c.args.session, lists_triples thing) = asks.2 ∙ ap (λ (x : Thing). Ok (c.args.session, lists_triples x)) same in
    c.say-in-Err-Refused.ensures.obeys source request s refl (subst Q (sym is) (says_untold s c.args.session user (sym c.in-Some.ensures) thing r its))

pub returns-clause-obeys : goal.returns-clause-obeys
returns-clause-obeys g c = λ source request asks.
    unsaid g.D.Disk.disk g.A.Ambient.ambient g.P.Plugin.plugin source c.args.outside.now (g.K.Sink.sink c.args.sink.now) c.args.self.now c.args.number request
    c.args.self.now
    c.requires.fits.held c.requires.ready.outside.main_last c.requires.ready.sink_last

pub returns-clause-whole : goal.returns-clause-whole
returns-clause-whole g c =
    keep_still g.P.Plugin.plugin c.args.self.now.store.cat c.args.outside.now.moments (g.D.Disk.disk c.args.outside.now.main) c.args.self.now.store
    c.args.outside.now.stores.items
    c.requires.fits.held c.requires.ready.outside.main_last

pub returns-clause-remembers : goal.returns-clause-remembers
returns-clause-remembers g c =
    let main = c.args.outside.now.main in
    still_remembers g.D.Disk.disk main main c.args.self.now.store c.args.outside.now.moments refl c.requires.ready.outside.main_last c.requires.fits.held
    c.requires.fits.pending
