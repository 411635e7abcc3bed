use Rattle.std.proofs.Common.{◌≡◌, List, ap, refl, sym, subst, ◌∙◌, Ok, Err}
use Rattle.grid_outside.specs.declared.outside.Wear.TheVariants.{Vaults}
use Rattle.grid_model.specs.Names.{Text}
use Rattle.grid_model.specs.Orders.{executes}
use Rattle.grid_model.specs.Refusing.{Or}
use Rattle.grid_model.specs.RuleText.{CallText}
use Rattle.grid_model.specs.Runs.{Request}
use Rattle.grid_model.specs.declared.refusal.Refusal.TheVariants as refusal
use Rattle.grid_model.specs.declared.replies.End.TheVariants as end
use Rattle.grid_model.specs.declared.rules.Rule.{Rule}
use Rattle.chain_core.specs.Seen.{plain_rules}
use Rattle.rule_parse.specs.RuleOrders.{ReadsCall}
use Rattle.cmd_run.specs.Calls.{IsReadSo}
use Rattle.cmd_run.specs.Fits.{state_of}
use Rattle.cmd_run.specs.Obeys.{SaysOnly}
use Rattle.cmd_run.proofs.Called.{says_no_call}
use Rattle.cmd_run.proofs.KeepLemmas.{keep_still}
use Rattle.cmd_run.proofs.LoginLemmas.{says_no_login}
use Rattle.cmd_run.proofs.Remembering.{remembers_none, still_remembers}
use Rattle.cmd_run.proofs.SayLemmas.{unsaid}
use Rattle.cmd_run.proofs.server.Server.exec.Goals as goal

-- the text is read so by rules that are these
reads_by : (rules others : List Rule) (text : Text) (call : Or CallText) → rules ≡ others → ReadsCall (plain_rules others) text call
    → ReadsCall (plain_rules rules) text call
reads_by rules others text call same reads = subst (λ (rs : List Rule). ReadsCall (plain_rules rs) text call) (sym same) reads

pub returns-in_default-clause-obeys : goal.returns-in_default-clause-obeys
returns-in_default-clause-obeys g c = λ source request asks.
    let s = c.args.self.now in
    let Q : Request → Type 0 = λ r. SaysOnly (state_of s) r (end.Refused refusal.NoLogin) (state_of s) in
    c.say.ensures.obeys source request s refl (subst Q (sym asks.2) (says_no_login s c.args.session (executes asks.0) (sym c.in_default.ensures) refl))

pub returns-in_default-clause-worn : goal.returns-in_default-clause-worn
returns-in_default-clause-worn g c = λ source request asks what place is. absurd (c.say.ensures.worn what place is)

pub returns-in_default-clause-dry : goal.returns-in_default-clause-dry
returns-in_default-clause-dry g c place is = absurd (c.say.ensures.worn Vaults place is)

pub returns-in_default-clause-remembers : goal.returns-in_default-clause-remembers
returns-in_default-clause-remembers g c =
    remembers_none c.args.line c.args.self.now.store.cat c.args.outside.now.moments (g.D.Disk.disk c.args.outside.now.main)
    (g.D.Disk.disk c.say.new.outside.main) c.say.ensures.remembers

pub exec_call-requires-clause-logged_in : goal.exec_call-requires-clause-logged_in
exec_call-requires-clause-logged_in g c = sym c.in-Some.ensures

pub returns-in-Ok-clause-obeys : goal.returns-in-Ok-clause-obeys
returns-in-Ok-clause-obeys g c = λ source request asks.
    c.exec_call.ensures.obeys source request (asks.2 ∙ ap (λ (x : Or CallText). Ok (c.args.session, executes x))
    (c.in-Ok.ensures.is asks.0 (reads_by _ _ c.args.text.now asks.0 c.rules.ensures asks.1)))

pub returns-in-Ok-clause-worn : goal.returns-in-Ok-clause-worn
returns-in-Ok-clause-worn g c = λ source request asks.
    c.exec_call.ensures.worn source request (asks.2 ∙ ap (λ (x : Or CallText). Ok (c.args.session, executes x))
    (c.in-Ok.ensures.is asks.0 (reads_by _ _ c.args.text.now asks.0 c.rules.ensures asks.1)))

pub returns-in-Ok-clause-dry : goal.returns-in-Ok-clause-dry
returns-in-Ok-clause-dry g c = λ place is source request asks.
    c.exec_call.ensures.dry place is source request (asks.2 ∙ ap (λ (x : Or CallText). Ok (c.args.session, executes x))
    (c.in-Ok.ensures.is asks.0 (reads_by _ _ c.args.text.now asks.0 c.rules.ensures asks.1)))

pub returns-in-Err-Refused-clause-obeys : goal.returns-in-Err-Refused-clause-obeys
returns-in-Err-Refused-clause-obeys g c = λ source request asks.
    let s = c.args.self.now in
    let r = c.in-Err-Refused.refusal in
    let refused = c.in-Err-Refused.is ∙ ap Err c.in-Err-Refused.field-0-is in
    let R : _ → Type 0 = λ x. IsReadSo asks.0 x in
    let same = subst R refused (c.call_from.ensures.is asks.0 (reads_by _ _ c.args.text.now asks.0 c.rules.ensures asks.1)) in
    let Q : Request → Type 0 = λ q. SaysOnly (state_of s) q (end.Refused r) (state_of s) in
    c.say-in-Err-Refused.ensures.obeys source request s refl
    (subst Q (sym (asks.2 ∙ ap (λ (x : Or CallText). Ok (c.args.session, executes x)) same))
    (says_no_call s c.args.session c.in-Some.user (sym c.in-Some.ensures) r (c.call_from.ensures.of_grid r refused)))

pub returns-in-Err-Refused-clause-worn : goal.returns-in-Err-Refused-clause-worn
returns-in-Err-Refused-clause-worn g c = λ source request asks what place is. absurd (c.say-in-Err-Refused.ensures.worn what place is)

pub returns-in-Err-Refused-clause-dry : goal.returns-in-Err-Refused-clause-dry
returns-in-Err-Refused-clause-dry g c place is = absurd (c.say-in-Err-Refused.ensures.worn Vaults place is)

pub returns-in-Err-Refused-clause-remembers : goal.returns-in-Err-Refused-clause-remembers
returns-in-Err-Refused-clause-remembers g c =
    remembers_none c.args.line c.args.self.now.store.cat c.args.outside.now.moments (g.D.Disk.disk c.args.outside.now.main)
    (g.D.Disk.disk c.say-in-Err-Refused.new.outside.main) c.say-in-Err-Refused.ensures.remembers

pub returns-clause-obeys : goal.returns-clause-obeys
returns-clause-obeys g c = λ source request asks.
    unsaid g.D.Disk.disk g.A.Ambient.ambient g.P.Plugin.plugin source c.args.outside.now (g.K.Sink.sink c.args.sink.now) c.args.self.now c.args.number request
    c.args.self.now
    c.requires.fits.held c.requires.ready.outside.main_last c.requires.ready.sink_last

pub returns-clause-whole : goal.returns-clause-whole
returns-clause-whole g c =
    keep_still g.P.Plugin.plugin c.args.self.now.store.cat c.args.outside.now.moments (g.D.Disk.disk c.args.outside.now.main) c.args.self.now.store
    c.args.outside.now.stores.items
    c.requires.fits.held c.requires.ready.outside.main_last

pub returns-clause-remembers : goal.returns-clause-remembers
returns-clause-remembers g c =
    let main = c.args.outside.now.main in
    remembers_none c.args.line c.args.self.now.store.cat c.args.outside.now.moments (g.D.Disk.disk main) (g.D.Disk.disk main)
    (still_remembers g.D.Disk.disk main main c.args.self.now.store c.args.outside.now.moments refl c.requires.ready.outside.main_last c.requires.fits.held
    c.requires.fits.pending)

pub returns-in-Ok-clause-in_few : goal.returns-in-Ok-clause-in_few
returns-in-Ok-clause-in_few g c = c.exec_call.ensures.in_few
