use Rattle.std.proofs.Common.{◌≡◌, inr, ℕ, List, Ok, refl, sym, ap, subst, ◌∙◌}
use Rattle.grid_outside.specs.declared.outside.Wear.TheVariants.{Vaults}
use Rattle.grid_model.specs.Orders.{Order, executes, lists, logs_in}
use Rattle.grid_model.specs.Names.{Text, Path}
use Rattle.grid_model.specs.Refusing.{Or}
use Rattle.grid_model.specs.RuleText.{CallText, Rule}
use Rattle.grid_model.specs.Runs.{Request}
use Rattle.grid_model.specs.Working.{well}
use Rattle.grid_model.specs.declared.replies.End.TheVariants as end
use Rattle.grid_model.specs.declared.grid.ItemKind.{ItemKind}
use Rattle.grid_model.specs.declared.requests.Verb.{Verb}
use Rattle.grid_model.specs.declared.requests.Verb.TheVariants as verb
use Rattle.run_laws.specs.Steps.{IsNoCall, RemovesNoFile}
use Rattle.row_run.specs.Verbs.{HasGoodWords, NamesSome}
use Rattle.cmd_run.specs.Asking.{AsksForRequest, AsksForVerb, IsForm, IsLineOf, QueryOf, ShowOf}
use Rattle.cmd_run.specs.Calls.{CallOf}
use Rattle.cmd_run.specs.Fits.{state_of}
use Rattle.cmd_run.specs.Obeys.{NamesItsCall, SaysOnly}
use Rattle.cmd_run.specs.Rules.{SetsRules}
use Rattle.grid_model.specs.Sessions.{State}
use Rattle.run_laws.specs.Around.{around}
use Rattle.cmd_run.proofs.SweptFew.{few_other, few_refused, not_told, quit_few}
use Rattle.cmd_run.proofs.Remembering.{call_none, call_of, names_none, no_source, remembers_none}
use Rattle.cmd_run.proofs.LoginLemmas.{says_refused, says_quit}
use Rattle.cmd_run.proofs.WornEnds.{not_vaults, worn_room}
use Rattle.cmd_run.proofs.WorkingLemmas.{verb_asks}
use Rattle.cmd_run.proofs.Works.{is_no_other}
use borrow.Enum.Total.{values_d}
use Rattle.grid_model.specs.contracts.requests.Verb as TheVerb
use Rattle.cmd_run.proofs.server.Server.command.Goals as goal

pub returns-in-Err-clause-obeys : goal.returns-in-Err-clause-obeys
returns-in-Err-clause-obeys g c = λ source request asks.
    let s = c.args.self.now in
    let r = c.in-Err.refusal in
    let A : _ → Type 0 = λ a. AsksForRequest (state_of s) a c.args.body request in
    let Q : Request → Type 0 = λ x. SaysOnly (state_of s) x (end.Refused r) (state_of s) in
    c.say.ensures.obeys source request s refl (subst Q (sym (subst A c.in-Err.is asks)) (says_refused s 0 r (subst IsForm c.in-Err.is c.requires.form)))

pub returns-in-Login-clause-obeys : goal.returns-in-Login-clause-obeys
returns-in-Login-clause-obeys g c = λ source request asks.
    let its = verb_asks (state_of c.args.self.now) c.args.asked c.args.body request c.in-Ok.request (verb.Login c.in-Login.user) c.in-Ok.is c.in-Login.is asks
    in
    c.login.ensures.obeys source request (its.1 ∙ ap (λ (o : Order). Ok (c.in-Ok.request.session, o)) its.2.1 ∙ ap
    (λ (u : Text). Ok (c.in-Ok.request.session, logs_in u)) (sym c.in-Login.user-is))

pub returns-in-Logout-clause-obeys : goal.returns-in-Logout-clause-obeys
returns-in-Logout-clause-obeys g c = λ source request asks.
    let its = verb_asks (state_of c.args.self.now) c.args.asked c.args.body request c.in-Ok.request verb.Logout c.in-Ok.is c.in-Logout.is asks in
    c.logout.ensures.obeys source request (its.1 ∙ ap (λ (o : Order). Ok (c.in-Ok.request.session, o)) its.2.1)

pub returns-in-Quit-clause-obeys : goal.returns-in-Quit-clause-obeys
returns-in-Quit-clause-obeys g c = λ source request asks.
    let s = c.args.self.now in
    let its = verb_asks (state_of c.args.self.now) c.args.asked c.args.body request c.in-Ok.request verb.Quit c.in-Ok.is c.in-Quit.is asks in
    let Q : Request → Type 0 = λ x. SaysOnly (state_of s) x well (state_of s) in
    let E : _ → Type 0 = λ e. SaysOnly (state_of s) request e (state_of s) in
    c.say-in-Quit.ensures.obeys source request s refl (subst E (sym c.well.ensures.is)
    (subst Q (sym (its.1 ∙ ap (λ (o : Order). Ok (c.in-Ok.request.session, o)) its.2.1)) (says_quit s c.in-Ok.request.session)))

pub returns-in-Err-clause-worn : goal.returns-in-Err-clause-worn
returns-in-Err-clause-worn g c = λ source request asks what place is. absurd (c.say.ensures.worn what place is)

pub returns-in-Err-clause-dry : goal.returns-in-Err-clause-dry
returns-in-Err-clause-dry g c place is = absurd (c.say.ensures.worn Vaults place is)

pub returns-in-Login-clause-worn : goal.returns-in-Login-clause-worn
returns-in-Login-clause-worn g c = λ source request asks what place is. absurd (c.login.ensures.worn what place is)

pub returns-in-Login-clause-dry : goal.returns-in-Login-clause-dry
returns-in-Login-clause-dry g c place is = absurd (c.login.ensures.worn Vaults place is)

pub returns-in-Logout-clause-worn : goal.returns-in-Logout-clause-worn
returns-in-Logout-clause-worn g c = λ source request asks what place is. absurd (c.logout.ensures.worn what place is)

pub returns-in-Logout-clause-dry : goal.returns-in-Logout-clause-dry
returns-in-Logout-clause-dry g c place is = absurd (c.logout.ensures.worn Vaults place is)

pub returns-in-Quit-clause-worn : goal.returns-in-Quit-clause-worn
returns-in-Quit-clause-worn g c = λ source request asks what place is. absurd (c.say-in-Quit.ensures.worn what place is)

pub returns-in-Quit-clause-dry : goal.returns-in-Quit-clause-dry
returns-in-Quit-clause-dry g c place is = absurd (c.say-in-Quit.ensures.worn Vaults place is)

pub returns-in-Err-clause-idle : goal.returns-in-Err-clause-idle
returns-in-Err-clause-idle g c = λ request asks calls refused. (c.say.ensures.rows, c.say.ensures.stores)

pub returns-in-Login-clause-idle : goal.returns-in-Login-clause-idle
returns-in-Login-clause-idle g c = λ request asks calls refused. (c.login.ensures.rows, c.login.ensures.stores)

pub returns-in-Logout-clause-idle : goal.returns-in-Logout-clause-idle
returns-in-Logout-clause-idle g c = λ request asks calls refused. (c.logout.ensures.rows, c.logout.ensures.stores)

pub returns-in-Quit-clause-idle : goal.returns-in-Quit-clause-idle
returns-in-Quit-clause-idle g c = λ request asks calls refused. (c.say-in-Quit.ensures.rows, c.say-in-Quit.ensures.stores)

pub returns-in-Ls-clause-obeys : goal.returns-in-Ls-clause-obeys
returns-in-Ls-clause-obeys g c = λ source request asks.
    let its = verb_asks (state_of c.args.self.now) c.args.asked c.args.body request c.in-Ok.request (verb.Ls c.in-Ls.path) c.in-Ok.is c.in-Ls.is asks in
    c.list.ensures.obeys source request (its.1 ∙ ap (λ (o : Order). Ok (c.in-Ok.request.session, o)) its.2.1 ∙ ap
    (λ (p : Path). Ok (c.in-Ok.request.session, lists p)) (sym c.in-Ls.path-is))

pub returns-in-Ls-clause-idle : goal.returns-in-Ls-clause-idle
returns-in-Ls-clause-idle g c = λ request asks calls refused. (c.list.ensures.rows, c.list.ensures.stores)

pub returns-in-Ls-clause-worn : goal.returns-in-Ls-clause-worn
returns-in-Ls-clause-worn g c = λ source request asks what place is. absurd (c.list.ensures.worn what place is)

pub returns-in-Ls-clause-dry : goal.returns-in-Ls-clause-dry
returns-in-Ls-clause-dry g c place is = absurd (c.list.ensures.worn Vaults place is)

pub returns-in-Err-clause-call : goal.returns-in-Err-clause-call
returns-in-Err-clause-call g c =
    λ l its. call_none l c.args.self.now.store.cat c.args.outside.now.moments (g.D.Disk.disk c.args.outside.now.main) (g.D.Disk.disk c.say.new.outside.main)
    c.say.ensures.remembers

pub returns-in-Err-clause-remembers : goal.returns-in-Err-clause-remembers
returns-in-Err-clause-remembers g c = λ request asks no_sweep.
    remembers_none c.args.line c.args.self.now.store.cat c.args.outside.now.moments (g.D.Disk.disk c.args.outside.now.main)
    (g.D.Disk.disk c.say.new.outside.main) c.say.ensures.remembers

pub returns-in-Login-clause-call : goal.returns-in-Login-clause-call
returns-in-Login-clause-call g c =
    λ l its. call_none l c.args.self.now.store.cat c.args.outside.now.moments (g.D.Disk.disk c.args.outside.now.main) (g.D.Disk.disk c.login.new.outside.main)
    c.login.ensures.remembers

pub returns-in-Login-clause-remembers : goal.returns-in-Login-clause-remembers
returns-in-Login-clause-remembers g c = λ request asks no_sweep.
    remembers_none c.args.line c.args.self.now.store.cat c.args.outside.now.moments (g.D.Disk.disk c.args.outside.now.main)
    (g.D.Disk.disk c.login.new.outside.main) c.login.ensures.remembers

pub returns-in-Logout-clause-call : goal.returns-in-Logout-clause-call
returns-in-Logout-clause-call g c =
    λ l its. call_none l c.args.self.now.store.cat c.args.outside.now.moments (g.D.Disk.disk c.args.outside.now.main) (g.D.Disk.disk c.logout.new.outside.main)
    c.logout.ensures.remembers

pub returns-in-Logout-clause-remembers : goal.returns-in-Logout-clause-remembers
returns-in-Logout-clause-remembers g c = λ request asks no_sweep.
    remembers_none c.args.line c.args.self.now.store.cat c.args.outside.now.moments (g.D.Disk.disk c.args.outside.now.main)
    (g.D.Disk.disk c.logout.new.outside.main) c.logout.ensures.remembers

pub returns-in-Quit-clause-call : goal.returns-in-Quit-clause-call
returns-in-Quit-clause-call g c =
    λ l its. call_none l c.args.self.now.store.cat c.args.outside.now.moments (g.D.Disk.disk c.args.outside.now.main)
    (g.D.Disk.disk c.say-in-Quit.new.outside.main) c.say-in-Quit.ensures.remembers

pub returns-in-Quit-clause-remembers : goal.returns-in-Quit-clause-remembers
returns-in-Quit-clause-remembers g c = λ request asks no_sweep.
    remembers_none c.args.line c.args.self.now.store.cat c.args.outside.now.moments (g.D.Disk.disk c.args.outside.now.main)
    (g.D.Disk.disk c.say-in-Quit.new.outside.main) c.say-in-Quit.ensures.remembers

pub returns-in-Ls-clause-call : goal.returns-in-Ls-clause-call
returns-in-Ls-clause-call g c =
    λ l its. call_none l c.args.self.now.store.cat c.args.outside.now.moments (g.D.Disk.disk c.args.outside.now.main) (g.D.Disk.disk c.list.new.outside.main)
    c.list.ensures.remembers

pub returns-in-Ls-clause-remembers : goal.returns-in-Ls-clause-remembers
returns-in-Ls-clause-remembers g c = λ request asks no_sweep.
    remembers_none c.args.line c.args.self.now.store.cat c.args.outside.now.moments (g.D.Disk.disk c.args.outside.now.main)
    (g.D.Disk.disk c.list.new.outside.main) c.list.ensures.remembers

pub returns-in-Sweep-clause-obeys : goal.returns-in-Sweep-clause-obeys
returns-in-Sweep-clause-obeys g c = λ source request asks.
    let its = verb_asks (state_of c.args.self.now) c.args.asked c.args.body request c.in-Ok.request verb.Sweep c.in-Ok.is c.in-Sweep.is asks in
    c.sweep.ensures.obeys source request (its.1 ∙ ap (λ (o : Order). Ok (c.in-Ok.request.session, o)) its.2.1)

pub returns-in-Sweep-clause-remembers : goal.returns-in-Sweep-clause-remembers
returns-in-Sweep-clause-remembers g c = λ request asks no_sweep.
    let its = verb_asks (state_of c.args.self.now) c.args.asked c.args.body request c.in-Ok.request verb.Sweep c.in-Ok.is c.in-Sweep.is asks in
    absurd (subst RemovesNoFile (its.1 ∙ ap (λ (o : Order). Ok (c.in-Ok.request.session, o)) its.2.1) no_sweep)

pub returns-in-Sweep-clause-idle : goal.returns-in-Sweep-clause-idle
returns-in-Sweep-clause-idle g c = λ request asks calls.
    let its = verb_asks (state_of c.args.self.now) c.args.asked c.args.body request c.in-Ok.request verb.Sweep c.in-Ok.is c.in-Sweep.is asks in
    c.sweep.ensures.idle request (its.1 ∙ ap (λ (o : Order). Ok (c.in-Ok.request.session, o)) its.2.1)

pub returns-in-Sweep-clause-worn : goal.returns-in-Sweep-clause-worn
returns-in-Sweep-clause-worn g c = λ source request asks.
    worn_room (around g.D.Disk.disk g.A.Ambient.ambient g.P.Plugin.plugin c.sweep.new.outside (g.K.Sink.sink c.sweep.new.sink) source)
    (g.D.Disk.disk c.args.outside.now.main) c.sweep.ensures.passes.frame.main.tells c.sweep.result c.sweep.ensures.worn c.args.self.now request

pub returns-in-Sweep-clause-dry : goal.returns-in-Sweep-clause-dry
returns-in-Sweep-clause-dry g c place is =
    absurd (not_vaults (around g.D.Disk.disk g.A.Ambient.ambient g.P.Plugin.plugin c.sweep.new.outside (g.K.Sink.sink c.sweep.new.sink) no_source)
    (g.D.Disk.disk c.args.outside.now.main) c.sweep.ensures.passes.frame.main.tells c.sweep.result c.sweep.ensures.worn place is)

pub show_tags-requires-clause-thing : goal.show_tags-requires-clause-thing
show_tags-requires-clause-thing g c =
    let p = c.in-LsMeta in
    let W : ItemKind → Verb → Type 0 = λ k v. NamesSome k (values_d TheVerb.enum 33 p.name-1-own.given.0 v).1.0 in
    subst (λ k. W k c.in-Ok.request.verb) (sym p.item-is) (subst (W p.item) (sym p.is) (subst HasGoodWords p.is (subst IsForm c.in-Ok.is c.requires.form).1))

pub returns-in-LsMeta-clause-obeys : goal.returns-in-LsMeta-clause-obeys
returns-in-LsMeta-clause-obeys g c = λ source request asks.
    let p = c.in-LsMeta in
    let its = verb_asks (state_of c.args.self.now) c.args.asked c.args.body request c.in-Ok.request (verb.LsMeta p.item p.name) c.in-Ok.is p.is asks in
    let W : ItemKind → Verb → Type 0 = λ k v. ShowOf c.in-Ok.request.session k (values_d TheVerb.enum 33 p.name-1-own.given.0 v).1.0 request in
    c.show_tags.ensures.obeys source request
    (subst (λ k. W k c.in-Ok.request.verb) (sym p.item-is)
    (subst (W p.item) (sym p.is) (its.2.1.0, its.2.1.1, its.1 ∙ ap (λ (o : Order). Ok (c.in-Ok.request.session, o)) its.2.1.2)))

pub returns-in-LsMeta-clause-idle : goal.returns-in-LsMeta-clause-idle
returns-in-LsMeta-clause-idle g c = λ request asks calls refused. (c.show_tags.ensures.rows, c.show_tags.ensures.stores)

pub returns-in-LsMeta-clause-call : goal.returns-in-LsMeta-clause-call
returns-in-LsMeta-clause-call g c =
    λ l its. call_none l c.args.self.now.store.cat c.args.outside.now.moments (g.D.Disk.disk c.args.outside.now.main)
    (g.D.Disk.disk c.show_tags.new.outside.main) c.show_tags.ensures.remembers

pub returns-in-LsMeta-clause-remembers : goal.returns-in-LsMeta-clause-remembers
returns-in-LsMeta-clause-remembers g c = λ request asks no_sweep.
    remembers_none c.args.line c.args.self.now.store.cat c.args.outside.now.moments (g.D.Disk.disk c.args.outside.now.main)
    (g.D.Disk.disk c.show_tags.new.outside.main) c.show_tags.ensures.remembers

pub returns-in-LsMeta-clause-worn : goal.returns-in-LsMeta-clause-worn
returns-in-LsMeta-clause-worn g c = λ source request asks what place is. absurd (c.show_tags.ensures.worn what place is)

pub returns-in-LsMeta-clause-dry : goal.returns-in-LsMeta-clause-dry
returns-in-LsMeta-clause-dry g c place is = absurd (c.show_tags.ensures.worn Vaults place is)

-- what a request asks for by the words of a query
query_asked : (session : ℕ) (text other : Text) (request : Request) → text ≡ other → QueryOf session text request → QueryOf session other request
query_asked session text other request is asks = let Q : Text → Type 0 = λ t. QueryOf session t request in subst Q is asks

pub returns-in-Query-clause-obeys : goal.returns-in-Query-clause-obeys
returns-in-Query-clause-obeys g c = λ source request asks.
    let its = verb_asks (state_of c.args.self.now) c.args.asked c.args.body request c.in-Ok.request (verb.Query c.in-Query.text) c.in-Ok.is c.in-Query.is asks
    in
    c.query.ensures.obeys source request (query_asked c.in-Ok.request.session _ _ request (sym c.in-Query.text-is)
    (its.2.1.0, its.2.1.1, its.1 ∙ ap (λ (o : Order). Ok (c.in-Ok.request.session, o)) its.2.1.2))

pub returns-in-Query-clause-worn : goal.returns-in-Query-clause-worn
returns-in-Query-clause-worn g c = λ source request asks.
    let its = verb_asks (state_of c.args.self.now) c.args.asked c.args.body request c.in-Ok.request (verb.Query c.in-Query.text) c.in-Ok.is c.in-Query.is asks
    in
    c.query.ensures.worn source request (query_asked c.in-Ok.request.session _ _ request (sym c.in-Query.text-is)
    (its.2.1.0, its.2.1.1, its.1 ∙ ap (λ (o : Order). Ok (c.in-Ok.request.session, o)) its.2.1.2))

pub returns-in-Query-clause-dry : goal.returns-in-Query-clause-dry
returns-in-Query-clause-dry g c place is = inr (λ source request asks.
    let its = verb_asks (state_of c.args.self.now) c.args.asked c.args.body request c.in-Ok.request (verb.Query c.in-Query.text) c.in-Ok.is c.in-Query.is asks
    in
    c.query.ensures.dry place is source request (query_asked c.in-Ok.request.session _ _ request (sym c.in-Query.text-is)
    (its.2.1.0, its.2.1.1, its.1 ∙ ap (λ (o : Order). Ok (c.in-Ok.request.session, o)) its.2.1.2)))

pub returns-in-Query-clause-idle : goal.returns-in-Query-clause-idle
returns-in-Query-clause-idle g c = λ request asks calls refused.
    let its = verb_asks (state_of c.args.self.now) c.args.asked c.args.body request c.in-Ok.request (verb.Query c.in-Query.text) c.in-Ok.is c.in-Query.is asks
    in
    c.query.ensures.idle request (query_asked c.in-Ok.request.session _ _ request (sym c.in-Query.text-is)
    (its.2.1.0, its.2.1.1, its.1 ∙ ap (λ (o : Order). Ok (c.in-Ok.request.session, o)) its.2.1.2)) calls

pub returns-in-Query-clause-call : goal.returns-in-Query-clause-call
returns-in-Query-clause-call g c = λ l its.
    let A : _ → Type 0 = λ a. IsLineOf a c.args.line l in
    let same : c.args.line ≡ l = subst A c.in-Ok.is its in
    let N : Text → Type 0 = λ t. NamesItsCall t c.args.outside.now.moments (g.D.Disk.disk c.args.outside.now.main) (g.D.Disk.disk c.query.new.outside.main) in
    subst N same (call_of c.args.line c.args.self.now.store.cat c.args.outside.now.moments (g.D.Disk.disk c.args.outside.now.main)
    (g.D.Disk.disk c.query.new.outside.main) c.query.ensures.remembers)

pub returns-in-Query-clause-remembers : goal.returns-in-Query-clause-remembers
returns-in-Query-clause-remembers g c = λ request asks no_sweep. c.query.ensures.remembers

-- ---- rules

-- what a request asks for whose line promised so many bytes
rules_asked : (at : State) (session count promised : ℕ) (held body : Text) (request : Request) → promised ≡ count → held ≡ body
    → AsksForVerb at session (verb.Rules promised) held request → SetsRules session count body request
rules_asked at session count promised held body request count_is body_is asks =
    let C : ℕ → Type 0 = λ n. SetsRules session n body request in
    let B : Text → Type 0 = λ b. SetsRules session promised b request in
    subst C count_is (subst B body_is (record {
      text = asks.2.0;
      rules = asks.2.1.0;
      reads = asks.2.1.1;
      is = asks.1 ∙ ap (λ (o : Order). Ok (session, o)) asks.2.1.2;
      all = asks.2.2;
      promised = asks.2.3;
    }))

pub returns-in-Rules-clause-obeys : goal.returns-in-Rules-clause-obeys
returns-in-Rules-clause-obeys g c = λ source request asks.
    let p = c.in-Rules in
    c.set_rules.ensures.obeys source request (rules_asked (state_of c.args.self.now) c.in-Ok.request.session _ p.count _ _ request (sym p.count-is)
    (sym c.as_slice-body.ensures)
    (verb_asks (state_of c.args.self.now) c.args.asked c.args.body request c.in-Ok.request (verb.Rules p.count) c.in-Ok.is p.is asks))

pub returns-in-Rules-clause-idle : goal.returns-in-Rules-clause-idle
returns-in-Rules-clause-idle g c = λ request asks calls refused.
    let p = c.in-Rules in
    c.set_rules.ensures.idle request (rules_asked (state_of c.args.self.now) c.in-Ok.request.session _ p.count _ _ request (sym p.count-is)
    (sym c.as_slice-body.ensures)
    (verb_asks (state_of c.args.self.now) c.args.asked c.args.body request c.in-Ok.request (verb.Rules p.count) c.in-Ok.is p.is asks)) refused

pub returns-in-Rules-clause-worn : goal.returns-in-Rules-clause-worn
returns-in-Rules-clause-worn g c = λ source request asks.
    worn_room (around g.D.Disk.disk g.A.Ambient.ambient g.P.Plugin.plugin c.set_rules.new.outside (g.K.Sink.sink c.set_rules.new.sink) source)
    (g.D.Disk.disk c.args.outside.now.main) c.set_rules.ensures.passes.frame.main.tells c.set_rules.result c.set_rules.ensures.worn c.args.self.now request

pub returns-in-Rules-clause-dry : goal.returns-in-Rules-clause-dry
returns-in-Rules-clause-dry g c place is =
    absurd (not_vaults (around g.D.Disk.disk g.A.Ambient.ambient g.P.Plugin.plugin c.set_rules.new.outside (g.K.Sink.sink c.set_rules.new.sink) no_source)
    (g.D.Disk.disk c.args.outside.now.main) c.set_rules.ensures.passes.frame.main.tells c.set_rules.result c.set_rules.ensures.worn place is)

pub returns-in-Rules-clause-call : goal.returns-in-Rules-clause-call
returns-in-Rules-clause-call g c = λ l its.
    call_none l c.args.self.now.store.cat c.args.outside.now.moments (g.D.Disk.disk c.args.outside.now.main) (g.D.Disk.disk c.set_rules.new.outside.main)
    c.set_rules.ensures.remembers

pub returns-in-Rules-clause-remembers : goal.returns-in-Rules-clause-remembers
returns-in-Rules-clause-remembers g c = λ request asks no_sweep.
    remembers_none c.args.line c.args.self.now.store.cat c.args.outside.now.moments (g.D.Disk.disk c.args.outside.now.main)
    (g.D.Disk.disk c.set_rules.new.outside.main) c.set_rules.ensures.remembers

pub returns-in-Rules-clause-few : goal.returns-in-Rules-clause-few
returns-in-Rules-clause-few g c = λ source request asks.
    let p = c.in-Rules in
    few_other (around g.D.Disk.disk g.A.Ambient.ambient g.P.Plugin.plugin c.args.outside.now (g.K.Sink.sink c.args.sink.now) source)
    (around g.D.Disk.disk g.A.Ambient.ambient g.P.Plugin.plugin c.set_rules.new.outside (g.K.Sink.sink c.set_rules.new.sink) source)
    c.args.self.now request c.set_rules.result c.set_rules.new.self c.args.asked c.args.body asks c.in-Ok.request (verb.Rules p.count) c.in-Ok.is p.is refl

pub returns-in-ShowRules-clause-obeys : goal.returns-in-ShowRules-clause-obeys
returns-in-ShowRules-clause-obeys g c = λ source request asks.
    let its = verb_asks (state_of c.args.self.now) c.args.asked c.args.body request c.in-Ok.request verb.ShowRules c.in-Ok.is c.in-ShowRules.is asks in
    c.show_rules.ensures.obeys source request (its.1 ∙ ap (λ (o : Order). Ok (c.in-Ok.request.session, o)) its.2.1)

pub returns-in-ShowRules-clause-idle : goal.returns-in-ShowRules-clause-idle
returns-in-ShowRules-clause-idle g c = λ request asks calls refused. (c.show_rules.ensures.rows, c.show_rules.ensures.stores)

pub returns-in-ShowRules-clause-worn : goal.returns-in-ShowRules-clause-worn
returns-in-ShowRules-clause-worn g c = λ source request asks what place is. absurd (c.show_rules.ensures.worn what place is)

pub returns-in-ShowRules-clause-dry : goal.returns-in-ShowRules-clause-dry
returns-in-ShowRules-clause-dry g c place is = absurd (c.show_rules.ensures.worn Vaults place is)

pub returns-in-ShowRules-clause-call : goal.returns-in-ShowRules-clause-call
returns-in-ShowRules-clause-call g c = λ l its.
    call_none l c.args.self.now.store.cat c.args.outside.now.moments (g.D.Disk.disk c.args.outside.now.main) (g.D.Disk.disk c.show_rules.new.outside.main)
    c.show_rules.ensures.remembers

pub returns-in-ShowRules-clause-remembers : goal.returns-in-ShowRules-clause-remembers
returns-in-ShowRules-clause-remembers g c = λ request asks no_sweep.
    remembers_none c.args.line c.args.self.now.store.cat c.args.outside.now.moments (g.D.Disk.disk c.args.outside.now.main)
    (g.D.Disk.disk c.show_rules.new.outside.main) c.show_rules.ensures.remembers

pub returns-in-ShowRules-clause-few : goal.returns-in-ShowRules-clause-few
returns-in-ShowRules-clause-few g c = λ source request asks.
    few_other (around g.D.Disk.disk g.A.Ambient.ambient g.P.Plugin.plugin c.args.outside.now (g.K.Sink.sink c.args.sink.now) source)
    (around g.D.Disk.disk g.A.Ambient.ambient g.P.Plugin.plugin c.show_rules.new.outside (g.K.Sink.sink c.show_rules.new.sink) source)
    c.args.self.now request c.show_rules.result c.args.self.now c.args.asked c.args.body asks c.in-Ok.request verb.ShowRules c.in-Ok.is c.in-ShowRules.is refl

-- ---- calls

-- what a request asks for by the words of a call
call_asked : (rules : List Rule) (session : ℕ) (text other : Text) (request : Request) → text ≡ other → CallOf rules session text request
    → CallOf rules session other request
call_asked rules session text other request is asks = let Q : Text → Type 0 = λ t. CallOf rules session t request in subst Q is asks

pub returns-in-Exec-clause-obeys : goal.returns-in-Exec-clause-obeys
returns-in-Exec-clause-obeys g c = λ source request asks.
    let its = verb_asks (state_of c.args.self.now) c.args.asked c.args.body request c.in-Ok.request (verb.Exec c.in-Exec.text) c.in-Ok.is c.in-Exec.is asks in
    c.exec.ensures.obeys source request (call_asked (state_of c.args.self.now).rules c.in-Ok.request.session _ _ request (sym c.in-Exec.text-is)
    (its.2.1.0, its.2.1.1, its.1 ∙ ap (λ (o : Order). Ok (c.in-Ok.request.session, o)) its.2.1.2))

pub returns-in-Exec-clause-worn : goal.returns-in-Exec-clause-worn
returns-in-Exec-clause-worn g c = λ source request asks.
    let its = verb_asks (state_of c.args.self.now) c.args.asked c.args.body request c.in-Ok.request (verb.Exec c.in-Exec.text) c.in-Ok.is c.in-Exec.is asks in
    c.exec.ensures.worn source request (call_asked (state_of c.args.self.now).rules c.in-Ok.request.session _ _ request (sym c.in-Exec.text-is)
    (its.2.1.0, its.2.1.1, its.1 ∙ ap (λ (o : Order). Ok (c.in-Ok.request.session, o)) its.2.1.2))

pub returns-in-Exec-clause-dry : goal.returns-in-Exec-clause-dry
returns-in-Exec-clause-dry g c place is = inr (λ source request asks.
    let its = verb_asks (state_of c.args.self.now) c.args.asked c.args.body request c.in-Ok.request (verb.Exec c.in-Exec.text) c.in-Ok.is c.in-Exec.is asks in
    c.exec.ensures.dry place is source request (call_asked (state_of c.args.self.now).rules c.in-Ok.request.session _ _ request (sym c.in-Exec.text-is)
    (its.2.1.0, its.2.1.1, its.1 ∙ ap (λ (o : Order). Ok (c.in-Ok.request.session, o)) its.2.1.2)))

no_call : (request : Request) (n : ℕ) (order : Order) (call : Or CallText) → request ≡ Ok (n, order) → order ≡ executes call → IsNoCall request → ⊥
no_call request n order call is order_is calls = subst IsNoCall (is ∙ ap (λ (o : Order). Ok (n, o)) order_is) calls

pub returns-in-Exec-clause-idle : goal.returns-in-Exec-clause-idle
returns-in-Exec-clause-idle g c = λ request asks calls refused.
    let its = verb_asks (state_of c.args.self.now) c.args.asked c.args.body request c.in-Ok.request (verb.Exec c.in-Exec.text) c.in-Ok.is c.in-Exec.is asks in
    absurd (no_call request c.in-Ok.request.session its.0 its.2.1.0 its.1 its.2.1.2 calls.0)

pub returns-in-Exec-clause-call : goal.returns-in-Exec-clause-call
returns-in-Exec-clause-call g c = λ l its.
    let A : _ → Type 0 = λ a. IsLineOf a c.args.line l in
    let same : c.args.line ≡ l = subst A c.in-Ok.is its in
    let N : Text → Type 0 = λ t. NamesItsCall t c.args.outside.now.moments (g.D.Disk.disk c.args.outside.now.main) (g.D.Disk.disk c.exec.new.outside.main) in
    subst N same (call_of c.args.line c.args.self.now.store.cat c.args.outside.now.moments (g.D.Disk.disk c.args.outside.now.main)
    (g.D.Disk.disk c.exec.new.outside.main) c.exec.ensures.remembers)

pub returns-in-Exec-clause-remembers : goal.returns-in-Exec-clause-remembers
returns-in-Exec-clause-remembers g c = λ request asks no_sweep. c.exec.ensures.remembers

pub returns-in-Exec-clause-few : goal.returns-in-Exec-clause-few
returns-in-Exec-clause-few g c = λ source request asks.
    let p = c.in-Exec in
    few_other (around g.D.Disk.disk g.A.Ambient.ambient g.P.Plugin.plugin c.args.outside.now (g.K.Sink.sink c.args.sink.now) source)
    (around g.D.Disk.disk g.A.Ambient.ambient g.P.Plugin.plugin c.exec.new.outside (g.K.Sink.sink c.exec.new.sink) source)
    c.args.self.now request c.exec.result c.exec.new.self c.args.asked c.args.body asks c.in-Ok.request (verb.Exec p.text) c.in-Ok.is p.is refl

pub work-requires-clause-other : goal.work-requires-clause-other
work-requires-clause-other g c =
    let n = c.in_default in
    is_no_other c.in-Ok.request.verb n.not-Login n.not-Logout n.not-Quit n.not-Sweep n.not-Ls n.not-LsMeta n.not-Query n.not-Exec n.not-Rules n.not-ShowRules

pub work-requires-clause-words : goal.work-requires-clause-words
work-requires-clause-words g c = (subst IsForm c.in-Ok.is c.requires.form).1

pub returns : goal.returns
returns g c =
    let n = c.in_default in
    let w = c.work.ensures in
    let r = c.in-Ok.request in
    let its = λ (request : Request) (asks : AsksForRequest (state_of c.args.self.now) c.args.asked c.args.body request).
    let A : Text → Type 0 = λ b. AsksForVerb (state_of c.args.self.now) r.session r.verb b request in
    subst A (sym c.as_slice-body-in_default.ensures) (verb_asks (state_of c.args.self.now) c.args.asked c.args.body request r r.verb c.in-Ok.is refl asks) in
    record {
      obeys = λ source request asks. w.obeys source request (its request asks);
      few =
          λ source request asks. few_other (around g.D.Disk.disk g.A.Ambient.ambient g.P.Plugin.plugin c.args.outside.now (g.K.Sink.sink c.args.sink.now)
          source)
          (around g.D.Disk.disk g.A.Ambient.ambient g.P.Plugin.plugin c.work.new.outside (g.K.Sink.sink c.work.new.sink) source)
          c.args.self.now request c.work.result c.work.new.self c.args.asked c.args.body asks r r.verb c.in-Ok.is refl (not_told r.verb n.not-Sweep n.not-Quit);
      worn = λ source request asks. w.worn source request (its request asks);
      call = λ l its.
          subst (λ (x : Text). NamesItsCall x c.args.outside.now.moments (g.D.Disk.disk c.args.outside.now.main) (g.D.Disk.disk c.work.new.outside.main))
          (subst (λ a. IsLineOf a c.args.line l) c.in-Ok.is its)
          (call_of c.args.line c.args.self.now.store.cat c.args.outside.now.moments (g.D.Disk.disk c.args.outside.now.main)
          (g.D.Disk.disk c.work.new.outside.main) w.remembers);
      remembers = λ request asks no_sweep. w.remembers;
      whole = w.whole;
      passes = w.passes;
      dry = λ place is. inr (λ source request asks. w.dry place is source request (its request asks));
      idle = λ request asks calls. w.idle request (its request asks) calls;
      drawn = w.drawn;
      in_few = w.in_few;
    }

pub returns-in-Sweep-clause-call : goal.returns-in-Sweep-clause-call
returns-in-Sweep-clause-call g c =
    λ l its. names_none l c.args.outside.now.moments (g.D.Disk.disk c.args.outside.now.main) (g.D.Disk.disk c.sweep.new.outside.main) c.sweep.ensures.none_waits

pub returns-in-Err-clause-few : goal.returns-in-Err-clause-few
returns-in-Err-clause-few g c = λ source request asks.
    few_refused (around g.D.Disk.disk g.A.Ambient.ambient g.P.Plugin.plugin c.args.outside.now (g.K.Sink.sink c.args.sink.now) source)
    (around g.D.Disk.disk g.A.Ambient.ambient g.P.Plugin.plugin c.say.new.outside (g.K.Sink.sink c.say.new.sink) source)
    c.args.self.now request c.say.result c.args.self.now c.args.asked c.args.body asks c.in-Err.refusal c.in-Err.is

pub returns-in-Login-clause-few : goal.returns-in-Login-clause-few
returns-in-Login-clause-few g c = λ source request asks.
    let p = c.in-Login in
    few_other (around g.D.Disk.disk g.A.Ambient.ambient g.P.Plugin.plugin c.args.outside.now (g.K.Sink.sink c.args.sink.now) source)
    (around g.D.Disk.disk g.A.Ambient.ambient g.P.Plugin.plugin c.login.new.outside (g.K.Sink.sink c.login.new.sink) source)
    c.args.self.now request c.login.result c.login.new.self c.args.asked c.args.body asks c.in-Ok.request (verb.Login p.user) c.in-Ok.is p.is refl

pub returns-in-Logout-clause-few : goal.returns-in-Logout-clause-few
returns-in-Logout-clause-few g c = λ source request asks.
    let p = c.in-Logout in
    few_other (around g.D.Disk.disk g.A.Ambient.ambient g.P.Plugin.plugin c.args.outside.now (g.K.Sink.sink c.args.sink.now) source)
    (around g.D.Disk.disk g.A.Ambient.ambient g.P.Plugin.plugin c.logout.new.outside (g.K.Sink.sink c.logout.new.sink) source)
    c.args.self.now request c.logout.result c.logout.new.self c.args.asked c.args.body asks c.in-Ok.request (verb.Logout) c.in-Ok.is p.is refl

pub returns-in-Quit-clause-few : goal.returns-in-Quit-clause-few
returns-in-Quit-clause-few g c = λ source request asks.
    let its = verb_asks (state_of c.args.self.now) c.args.asked c.args.body request c.in-Ok.request verb.Quit c.in-Ok.is c.in-Quit.is asks in
    quit_few (around g.D.Disk.disk g.A.Ambient.ambient g.P.Plugin.plugin c.args.outside.now (g.K.Sink.sink c.args.sink.now) source)
    (around g.D.Disk.disk g.A.Ambient.ambient g.P.Plugin.plugin c.say-in-Quit.new.outside (g.K.Sink.sink c.say-in-Quit.new.sink) source)
    c.args.self.now request c.say-in-Quit.result c.args.self.now c.in-Ok.request.session
    (its.1 ∙ ap (λ (o : Order). Ok (c.in-Ok.request.session, o)) its.2.1) (ap (λ m. (g.D.Disk.disk m).holds) c.say-in-Quit.ensures.rows)

pub returns-in-LsMeta-clause-few : goal.returns-in-LsMeta-clause-few
returns-in-LsMeta-clause-few g c = λ source request asks.
    let p = c.in-LsMeta in
    few_other (around g.D.Disk.disk g.A.Ambient.ambient g.P.Plugin.plugin c.args.outside.now (g.K.Sink.sink c.args.sink.now) source)
    (around g.D.Disk.disk g.A.Ambient.ambient g.P.Plugin.plugin c.show_tags.new.outside (g.K.Sink.sink c.show_tags.new.sink) source)
    c.args.self.now request c.show_tags.result c.show_tags.new.self c.args.asked c.args.body asks c.in-Ok.request (verb.LsMeta p.item p.name) c.in-Ok.is p.is
    refl

pub returns-in-Query-clause-few : goal.returns-in-Query-clause-few
returns-in-Query-clause-few g c = λ source request asks.
    let p = c.in-Query in
    few_other (around g.D.Disk.disk g.A.Ambient.ambient g.P.Plugin.plugin c.args.outside.now (g.K.Sink.sink c.args.sink.now) source)
    (around g.D.Disk.disk g.A.Ambient.ambient g.P.Plugin.plugin c.query.new.outside (g.K.Sink.sink c.query.new.sink) source)
    c.args.self.now request c.query.result c.query.new.self c.args.asked c.args.body asks c.in-Ok.request (verb.Query p.text) c.in-Ok.is p.is refl

pub returns-in-Ls-clause-few : goal.returns-in-Ls-clause-few
returns-in-Ls-clause-few g c = λ source request asks.
    let p = c.in-Ls in
    few_other (around g.D.Disk.disk g.A.Ambient.ambient g.P.Plugin.plugin c.args.outside.now (g.K.Sink.sink c.args.sink.now) source)
    (around g.D.Disk.disk g.A.Ambient.ambient g.P.Plugin.plugin c.list.new.outside (g.K.Sink.sink c.list.new.sink) source)
    c.args.self.now request c.list.result c.args.self.now c.args.asked c.args.body asks c.in-Ok.request (verb.Ls p.path) c.in-Ok.is p.is refl

pub returns-in-Sweep-clause-few : goal.returns-in-Sweep-clause-few
returns-in-Sweep-clause-few g c = λ source request asks.
    let its = verb_asks (state_of c.args.self.now) c.args.asked c.args.body request c.in-Ok.request verb.Sweep c.in-Ok.is c.in-Sweep.is asks in
    c.sweep.ensures.few source request (its.1 ∙ ap (λ (o : Order). Ok (c.in-Ok.request.session, o)) its.2.1)

pub returns-in-Query-clause-in_few : goal.returns-in-Query-clause-in_few
returns-in-Query-clause-in_few g c = c.query.ensures.in_few

pub returns-in-Exec-clause-in_few : goal.returns-in-Exec-clause-in_few
returns-in-Exec-clause-in_few g c = c.exec.ensures.in_few
