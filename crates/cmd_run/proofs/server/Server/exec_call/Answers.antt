use Rattle.std.proofs.Common.{◌≡◌, false, ap, refl, sym, subst, ◌∙◌, Err}
use Rattle.grid_outside.specs.declared.outside.Wear.TheVariants.{Vaults}
use Rattle.grid_model.specs.Names.{Text}
use Rattle.grid_model.specs.Obeying.{exec_scope, no_env}
use Rattle.grid_model.specs.Parsed.{call_of, plain_call}
use Rattle.grid_model.specs.RowGrids.{grid_of, user_name}
use Rattle.grid_model.specs.Rows.{Cat}
use Rattle.grid_model.specs.Runs.{Request}
use Rattle.grid_model.specs.Values.{Env, computed, is_short}
use Rattle.grid_model.specs.declared.refusal.Failure.TheVariants.{LongText}
use Rattle.grid_model.specs.declared.replies.End.TheVariants as end
use Rattle.rule_cond.specs.Scopes.{env_of}
use Rattle.cmd_run.specs.Calls.{IsComputed}
use Rattle.cmd_run.specs.Fits.{state_of}
use Rattle.cmd_run.specs.Obeys.{SaysOnly}
use Rattle.cmd_run.proofs.Called.{says_long}
use Rattle.cmd_run.proofs.KeepLemmas.{keep_still}
use Rattle.cmd_run.proofs.Remembering.{remembers_none, still_remembers}
use Rattle.cmd_run.proofs.SayLemmas.{unsaid}
use Rattle.cmd_run.proofs.server.Server.exec_call.Goals as goal

pub returns-in_default-clause-obeys : goal.returns-in_default-clause-obeys
returns-in_default-clause-obeys g c = λ source request asks.
    unsaid g.D.Disk.disk g.A.Ambient.ambient g.P.Plugin.plugin source c.args.outside.now (g.K.Sink.sink c.args.sink.now) c.args.self.now c.args.number request
    c.args.self.now
    c.requires.fits.held c.requires.ready.outside.main_last c.requires.ready.sink_last

pub returns-in_default-clause-whole : goal.returns-in_default-clause-whole
returns-in_default-clause-whole g c =
    keep_still g.P.Plugin.plugin c.args.self.now.store.cat c.args.outside.now.moments (g.D.Disk.disk c.args.outside.now.main) c.args.self.now.store
    c.args.outside.now.stores.items
    c.requires.fits.held c.requires.ready.outside.main_last

pub returns-in_default-clause-remembers : goal.returns-in_default-clause-remembers
returns-in_default-clause-remembers g c =
    let main = c.args.outside.now.main in
    remembers_none c.args.line c.args.self.now.store.cat c.args.outside.now.moments (g.D.Disk.disk main) (g.D.Disk.disk main)
    (still_remembers g.D.Disk.disk main main c.args.self.now.store c.args.outside.now.moments refl c.requires.ready.outside.main_last c.requires.fits.held
    c.requires.fits.pending)

pub computed_call-requires-clause-env : goal.computed_call-requires-clause-env
computed_call-requires-clause-env g c = c.in-Ok.ensures ∙ ap no_env (sym (ap (λ (e : Env). e.user) c.in-Ok.ensures))

pub exec_computed-requires-clause-called : goal.exec_computed-requires-clause-called
exec_computed-requires-clause-called g c =
    let cat = c.args.self.now.store.cat in
    let user_is = ap (λ (e : Env). e.user) (subst (λ (x : Cat). env_of c.in-Ok.env ≡ no_env (user_name x c.args.user)) c.tables.ensures c.in-Ok.ensures) in (
      plain_call (call_of c.args.call.now),
      record {
        logged_in = c.requires.logged_in;
        computed =
            subst (λ (u : Text). IsComputed u (grid_of cat) (plain_call (call_of c.args.call.now)) c.in-Ok-computed_call.done) user_is
            (c.in-Ok-computed_call.ensures.call (grid_of cat));
      },
    )

pub exec_computed-requires-clause-env : goal.exec_computed-requires-clause-env
exec_computed-requires-clause-env g c = (subst (λ (x : Cat). env_of c.in-Ok.env ≡ no_env (user_name x c.args.user)) c.tables.ensures c.in-Ok.ensures)

pub returns-in-Ok-computed_call-clause-obeys : goal.returns-in-Ok-computed_call-clause-obeys
returns-in-Ok-computed_call-clause-obeys g c = λ source request asks.
    c.exec_computed.ensures.obeys source request (plain_call (call_of c.args.call.now)) (record {
      logged_in = c.requires.logged_in;
      computed =
          subst (λ (u : Text). IsComputed u (grid_of c.args.self.now.store.cat) (plain_call (call_of c.args.call.now)) c.in-Ok-computed_call.done)
          (ap (λ (e : Env). e.user) (subst (λ (x : Cat). env_of c.in-Ok.env ≡ no_env (user_name x c.args.user)) c.tables.ensures c.in-Ok.ensures))
          (c.in-Ok-computed_call.ensures.call (grid_of c.args.self.now.store.cat));
    }) asks

pub returns-in-Ok-computed_call-clause-worn : goal.returns-in-Ok-computed_call-clause-worn
returns-in-Ok-computed_call-clause-worn g c = λ source request asks.
    c.exec_computed.ensures.worn source request (plain_call (call_of c.args.call.now)) (record {
      logged_in = c.requires.logged_in;
      computed =
          subst (λ (u : Text). IsComputed u (grid_of c.args.self.now.store.cat) (plain_call (call_of c.args.call.now)) c.in-Ok-computed_call.done)
          (ap (λ (e : Env). e.user) (subst (λ (x : Cat). env_of c.in-Ok.env ≡ no_env (user_name x c.args.user)) c.tables.ensures c.in-Ok.ensures))
          (c.in-Ok-computed_call.ensures.call (grid_of c.args.self.now.store.cat));
    }) asks

pub returns-in-Ok-computed_call-clause-dry : goal.returns-in-Ok-computed_call-clause-dry
returns-in-Ok-computed_call-clause-dry g c = λ place is source request asks.
    c.exec_computed.ensures.dry place is source request (plain_call (call_of c.args.call.now)) (record {
      logged_in = c.requires.logged_in;
      computed =
          subst (λ (u : Text). IsComputed u (grid_of c.args.self.now.store.cat) (plain_call (call_of c.args.call.now)) c.in-Ok-computed_call.done)
          (ap (λ (e : Env). e.user) (subst (λ (x : Cat). env_of c.in-Ok.env ≡ no_env (user_name x c.args.user)) c.tables.ensures c.in-Ok.ensures))
          (c.in-Ok-computed_call.ensures.call (grid_of c.args.self.now.store.cat));
    }) asks

pub returns-in-Err-LongText-clause-obeys : goal.returns-in-Err-LongText-clause-obeys
returns-in-Err-LongText-clause-obeys g c = λ source request asks.
    let s = c.args.self.now in
    let call = plain_call (call_of c.args.call.now) in
    let user_is = ap (λ (e : Env). e.user) (subst (λ (x : Cat). env_of c.in-Ok.env ≡ no_env (user_name x c.args.user)) c.tables.ensures c.in-Ok.ensures) in
    let long = subst (λ (u : Text). is_short (computed (exec_scope u) (grid_of s.store.cat) call) ≡ false) user_is
    (c.computed_call.ensures.long (c.in-Err-LongText.is ∙ ap Err c.in-Err-LongText.field-0-is) (grid_of s.store.cat)) in
    let Q : Request → Type 0 = λ r. SaysOnly (state_of s) r (end.Failed LongText) (state_of s) in
    c.say.ensures.obeys source request s refl (subst Q (sym asks) (says_long s c.args.session c.args.user c.requires.logged_in call long))

pub returns-in-Err-LongText-clause-worn : goal.returns-in-Err-LongText-clause-worn
returns-in-Err-LongText-clause-worn g c = λ source request asks what place is. absurd (c.say.ensures.worn what place is)

pub returns-in-Err-LongText-clause-dry : goal.returns-in-Err-LongText-clause-dry
returns-in-Err-LongText-clause-dry g c place is = absurd (c.say.ensures.worn Vaults place is)

pub returns-in-Err-LongText-clause-remembers : goal.returns-in-Err-LongText-clause-remembers
returns-in-Err-LongText-clause-remembers g c =
    remembers_none c.args.line c.args.self.now.store.cat c.args.outside.now.moments (g.D.Disk.disk c.args.outside.now.main)
    (g.D.Disk.disk c.say.new.outside.main) c.say.ensures.remembers

pub returns-clause-obeys : goal.returns-clause-obeys
returns-clause-obeys g c = λ source request asks.
    unsaid g.D.Disk.disk g.A.Ambient.ambient g.P.Plugin.plugin source c.args.outside.now (g.K.Sink.sink c.args.sink.now) c.args.self.now c.args.number request
    c.args.self.now
    c.requires.fits.held c.requires.ready.outside.main_last c.requires.ready.sink_last

pub returns-clause-whole : goal.returns-clause-whole
returns-clause-whole g c =
    keep_still g.P.Plugin.plugin c.args.self.now.store.cat c.args.outside.now.moments (g.D.Disk.disk c.args.outside.now.main) c.args.self.now.store
    c.args.outside.now.stores.items
    c.requires.fits.held c.requires.ready.outside.main_last

pub returns-clause-remembers : goal.returns-clause-remembers
returns-clause-remembers g c =
    let main = c.args.outside.now.main in
    remembers_none c.args.line c.args.self.now.store.cat c.args.outside.now.moments (g.D.Disk.disk main) (g.D.Disk.disk main)
    (still_remembers g.D.Disk.disk main main c.args.self.now.store c.args.outside.now.moments refl c.requires.ready.outside.main_last c.requires.fits.held
    c.requires.fits.pending)

pub returns-in-Ok-computed_call-clause-in_few : goal.returns-in-Ok-computed_call-clause-in_few
returns-in-Ok-computed_call-clause-in_few g c = c.exec_computed.ensures.in_few
