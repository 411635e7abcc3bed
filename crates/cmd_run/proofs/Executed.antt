-- What the server has behind a request whose calls were made, and behind a call by itself.
use Rattle.std.proofs.Common.{◌≡◌, ℕ, List, None, Ok, Err, map, IsTrue, refl, sym, ap, ◌∙◌, subst}
use Rattle.std.specs.Prelude.{IsErrOf, Result, ⊤}
use Rattle.grid_outside.specs.Ambient.{AmbientState}
use Rattle.grid_outside.specs.Disk.{DiskState}
use Rattle.grid_outside.specs.Files.{StoreState}
use Rattle.grid_outside.specs.Sink.{SinkState}
use Rattle.grid_outside.specs.Source.{SourceState}
use Rattle.grid_outside.specs.declared.outside.Wear.{Wear}
use Rattle.grid_outside.specs.declared.outside.Wear.TheVariants as wear
use Rattle.grid_model.specs.Checks.{first_fault, rules_faults}
use Rattle.grid_model.specs.Names.{Text}
use Rattle.grid_model.specs.Obeying.{exec_scope, no_env}
use Rattle.grid_model.specs.Orders.{executes}
use Rattle.grid_model.specs.Parsed.{rule_of}
use Rattle.grid_model.specs.RowGrids.{grid_of, user_name}
use Rattle.grid_model.specs.RuleText.{CallText}
use Rattle.grid_model.specs.Runs.{Request}
use Rattle.grid_model.specs.Sessions.{Sessions, State}
use Rattle.grid_model.specs.Values.{Env, Value, value}
use Rattle.grid_model.specs.declared.calls.Call.{Call}
use Rattle.grid_journal.specs.Journal.{Journal}
use Rattle.grid_deed.specs.Safe.{KeepWhole}
use Rattle.grid_deed.proofs.Frames.{frame_as}
use Rattle.grid_headline.specs.Worlds.{World}
use Rattle.run_laws.specs.Around.{around}
use Rattle.run_laws.specs.Passes.{CallsPass, Seen}
use Rattle.run_laws.specs.Steps.{CallsNoRules, HasLine, IsHandledWhole, RequestStep}
use Rattle.run_laws.proofs.Users as kept
use Rattle.sess.specs.Places.{sessions_of}
use Rattle.service_run.specs.declared.command.Command.{Command}
use Rattle.service_run.specs.declared.ending.Ending as calls
use Rattle.service_run.specs.declared.ending.Ending.TheVariants as called
use Rattle.chain_core.specs.Running.{HasValues}
use Rattle.chain_core.specs.Seen.{rules_of}
use Rattle.chain_core.specs.declared.base.RuleBase.{RuleBase}
use Rattle.rule_parse.specs.Printed.{print_rules}
use Rattle.rule_run.specs.Asked.{IsAsked}
use Rattle.rule_run.specs.Executing.{DoesCall, Executes, HasRunOut, IsRested, MakesNoFiles}
use Rattle.cmd_run.specs.Calls.{IsCalled, begun_command, ended_by, ending_by}
use Rattle.cmd_run.specs.Fits.{AreUsers, FitsMain, state_of}
use Rattle.cmd_run.specs.Obeys.{IsWorn, IsWornAt, MayMakeFile, Obeys, RemembersDeed, handled}
use Rattle.cmd_run.specs.declared.server.Server.{Server}
use Rattle.cmd_run.specs.declared.server.Ending.{Ending}
use Rattle.cmd_run.specs.declared.server.Ending.TheVariants as ending
use Rattle.cmd_run.proofs.Called.{asked_for, does_call, makes_none}
use Rattle.cmd_run.proofs.Remembering.{no_source}
use Rattle.cmd_run.proofs.Users.{KeepsUsers, sessions_stay, users_stay}

-- ---- how it ended

disk_by : (e : calls.Ending) → IsErrOf {T = ⊤} {E = Ending} (Err (ending_by e)) ending.Disk → IsErrOf {T = ⊤} {E = calls.Ending} (Err e) called.Disk
disk_by called.Disk is = refl
disk_by called.Sink is = cc
disk_by called.Memory is = cc
disk_by (called.Worn what place) is = cc

disk_back : (e : calls.Ending) → IsErrOf {T = ⊤} {E = calls.Ending} (Err e) called.Disk → IsErrOf {T = ⊤} {E = Ending} (Err (ending_by e)) ending.Disk
disk_back called.Disk is = refl
disk_back called.Sink is = cc
disk_back called.Memory is = cc
disk_back (called.Worn what place) is = cc

sink_by : (e : calls.Ending) → IsErrOf {T = ⊤} {E = Ending} (Err (ending_by e)) ending.Sink → IsErrOf {T = ⊤} {E = calls.Ending} (Err e) called.Sink
sink_by called.Sink is = refl
sink_by called.Disk is = cc
sink_by called.Memory is = cc
sink_by (called.Worn what place) is = cc

module _ {D A P K : Type 0} (disk : D → DiskState) (plugin : P → StoreState) (sink : K → SinkState) (a b : Seen D A P K) where
  passes_as : (failed other sink_failed sink_other : Type 0) → (failed → other) → (other → failed) → (sink_other → sink_failed)
      → CallsPass disk plugin sink failed sink_failed a b
      → CallsPass disk plugin sink other sink_other a b
  passes_as failed other sink_failed sink_other there back sink_back passes = record {
    frame = frame_as disk plugin failed other (record a.outside { ambient = b.outside.ambient }) b.outside there back passes.frame;
    sink_last = passes.sink_last;
    goes = passes.goes;
    sink_cause = λ f. passes.sink_cause (sink_back f);
  }

  -- the failures under the names of commands
  pub passes_ended : (result : Result ⊤ calls.Ending) → CallsPass disk plugin sink (IsErrOf result called.Disk) (IsErrOf result called.Sink) a b
      → CallsPass disk plugin sink (IsErrOf (ended_by result) ending.Disk) (IsErrOf (ended_by result) ending.Sink) a b
  passes_ended (Ok done) passes =
      passes_as (IsErrOf {T = ⊤} {E = calls.Ending} (Ok done) called.Disk) (IsErrOf {T = ⊤} {E = Ending} (Ok done) ending.Disk)
      (IsErrOf {T = ⊤} {E = calls.Ending} (Ok done) called.Sink) (IsErrOf {T = ⊤} {E = Ending} (Ok done) ending.Sink)
      (λ x. cc) (λ x. cc) (λ x. cc) passes
  passes_ended (Err e) passes =
      passes_as (IsErrOf {T = ⊤} {E = calls.Ending} (Err e) called.Disk) (IsErrOf {T = ⊤} {E = Ending} (Err (ending_by e)) ending.Disk)
      (IsErrOf {T = ⊤} {E = calls.Ending} (Err e) called.Sink) (IsErrOf {T = ⊤} {E = Ending} (Err (ending_by e)) ending.Sink)
      (disk_back e) (disk_by e) (sink_by e) passes

-- ---- what it left

module _ {D A P K : Type 0} (disk : D → DiskState) (ambient : A → AmbientState) (plugin : P → StoreState) (sink : K → SinkState) (source : SourceState)
    (before : Server) (request : Request) (x : Command) (from new : Seen D A P K) where
  abbrev old : World P
  old = around disk ambient plugin from.outside (sink from.sink) source

  abbrev now : World P
  now = around disk ambient plugin new.outside (sink new.sink) source

  abbrev is_executed : Result ⊤ calls.Ending → Server → Type 0
  is_executed r after = Executes disk ambient plugin sink source (state_of before) request before.store.cat x from new r after.store

  -- where it was handled whole
  module _ (after : Server) (fits : FitsMain (disk from.outside.main) before) (same : after.sessions ≡ before.sessions)
      (ruled_same : after.rules ≡ before.rules) where
    users_of : kept.KeepsUsers before.store.cat after.store.cat → KeepsUsers before.store.cat after.store.cat
    users_of k = record { there = k.there; names = k.names }

    state_is : kept.KeepsUsers before.store.cat after.store.cat → record (state_of before) { grid = grid_of after.store.cat } ≡ state_of after
    state_is k =
        let names : sessions_of (user_name before.store.cat) before.sessions ≡ sessions_of (user_name after.store.cat) after.sessions =
        sym (sessions_stay before.store.cat after.store.cat before.sessions (users_of k) fits.users) ∙ ap (sessions_of (user_name after.store.cat)) (sym same)
        in
        ap (λ (y : Sessions). (let t : State = record { grid = grid_of after.store.cat; rules = rules_of before.rules; sessions = y } in t)) names
        ∙ ap (λ (y : RuleBase). (let t : State = record { grid = grid_of after.store.cat; rules = rules_of y; sessions = (state_of after).sessions } in t))
        (sym ruled_same)

    fits_after : IsRested before.store.cat (disk new.outside.main) after.store → FitsMain (disk new.outside.main) after
    fits_after r = record {
      held = r.held;
      staged = r.staged;
      pending = r.pending;
      rules = r.rules ∙ fits.rules ∙ ap (λ (y : RuleBase). print_rules (rules_of y)) (sym ruled_same);
      checked = (let C : RuleBase → Type 0 = λ y. first_fault (rules_faults (map rule_of y.rules)) ≡ None in subst C (sym ruled_same) fits.checked);
      users = subst (AreUsers after.store.cat) (sym same) (users_stay before.store.cat after.store.cat before.sessions (users_of r.users) fits.users);
    }

    pub obeys_whole : (done : ⊤) → is_executed (Ok done) after → Obeys old now before x.number request (Ok done) after
    obeys_whole done e =
        let W : State → Type 0 = λ s. IsHandledWhole old now (state_of before) before.store.cat x.number request e.step after.store.cat s in
        handled e.step (subst W (state_is e.ends.1.users) e.ends.0, fits_after e.ends.1)

  -- where it was cut short
  pub obeys_cut : (after : Server) (e : calls.Ending) → is_executed (Err e) after → Obeys old now before x.number request (Err (ending_by e)) after
  obeys_cut after e its = handled its.step tt

  pub begun_cut : (result : Result ⊤ calls.Ending) (after : Server) → is_executed result after
      → RequestStep old now (state_of before) before.store.cat x.number request
  begun_cut result after its = its.step

  -- it or a rule may make a file where numbers of vault files have run out
  abbrev asks_if_dry : Result ⊤ calls.Ending → Type 0
  asks_if_dry r = (place : ℕ) → r ≡ Err (called.Worn wear.Vaults place) → MayMakeFile (state_of before) request

  run_out : now.main.tells ≡ old.main.tells → (e : calls.Ending) → asks_if_dry (Err e)
      → HasRunOut disk ambient plugin sink source (state_of before) request before.store.cat x from new e
      → IsWorn now before request (Err (ending_by e))
  run_out tells called.Disk asks its what place is = cc
  run_out tells called.Sink asks its what place is = cc
  run_out tells called.Memory asks its what place is = cc
  run_out tells (called.Worn wear.Runs p) asks its what place is = absurd its
  run_out tells (called.Worn wear.Vaults p) asks its what place is =
      let what_is : wear.Vaults ≡ what = cc in
      let place_is : p ≡ place = cc in
      let W : Wear → Type 0 = λ w. IsWornAt now before request place w in
      let N : ℕ → Type 0 = λ n. IsWornAt now before request n wear.Vaults in
      subst W what_is (subst N place_is (its.0, (λ told. its.1 (subst IsTrue tells told)), asks p refl))
  run_out tells (called.Worn wear.Log p) asks its what place is =
      let what_is : wear.Log ≡ what = cc in
      let place_is : p ≡ place = cc in
      let W : Wear → Type 0 = λ w. IsWornAt now before request place w in
      let N : ℕ → Type 0 = λ n. IsWornAt now before request n wear.Log in
      subst W what_is (subst N place_is (its.0, (λ told. its.1 (subst IsTrue tells told))))

  pub worn_cut : now.main.tells ≡ old.main.tells → (after : Server) (e : calls.Ending) → asks_if_dry (Err e) → is_executed (Err e) after
      → IsWorn now before request (Err (ending_by e))
  worn_cut tells after e asks its = run_out tells e asks its.ends

  pub worn_whole : (done : ⊤) → IsWorn now before request (Ok done)
  worn_whole done what place is = cc

-- ---- the request with its server

module _ {D A P K : Type 0} (disk : D → DiskState) (ambient : A → AmbientState) (plugin : P → StoreState) (sink : K → SinkState)
    (before : Server) (request : Request) (x : Command) (number user : ℕ) (line : Text) (from new : Seen D A P K)
    (result : Result ⊤ calls.Ending) (after : Journal) (x_is : x ≡ begun_command before.store.cat.numbers.run number user line)
    (executed : (source : SourceState) → Executes disk ambient plugin sink source (state_of before) request before.store.cat x from new result after) where
  number_is : x.number ≡ number
  number_is = ap (λ (y : Command). y.number) x_is

  module _ (source : SourceState) (s : Server) (store_is : s.store ≡ after) where
    abbrev whole_for : Result ⊤ calls.Ending → Type 0
    whole_for r = Executes disk ambient plugin sink source (state_of before) request before.store.cat x from new r s.store

    its : whole_for result
    its =
        let S : Journal → Type 0 = λ j. Executes disk ambient plugin sink source (state_of before) request before.store.cat x from new result j in
        subst S (sym store_is) (executed source)

    abbrev old_world : World P
    old_world = around disk ambient plugin from.outside (sink from.sink) source

    abbrev new_world : World P
    new_world = around disk ambient plugin new.outside (sink new.sink) source

    pub request_obeys : FitsMain (disk from.outside.main) before → s.sessions ≡ before.sessions → s.rules ≡ before.rules
        → Obeys old_world new_world before number request (ended_by result) s
    request_obeys fits same ruled_same =
        let N : ℕ → Type 0 = λ n. Obeys old_world new_world before n request (ended_by result) s in
        subst N number_is (by result its)
      where
        by : (y : Result ⊤ calls.Ending) → whole_for y → Obeys old_world new_world before x.number request (ended_by y) s
        by (Ok d) e = obeys_whole disk ambient plugin sink source before request x from new s fits same ruled_same d e
        by (Err f) e = obeys_cut disk ambient plugin sink source before request x from new s f e

    pub request_worn : (disk new.outside.main).tells ≡ (disk from.outside.main).tells
        → ((place : ℕ) → result ≡ Err (called.Worn wear.Vaults place) → MayMakeFile (state_of before) request)
        → IsWorn new_world before request (ended_by result)
    request_worn tells asks = by result asks its
      where
        by : (y : Result ⊤ calls.Ending) → ((place : ℕ) → y ≡ Err (called.Worn wear.Vaults place) → MayMakeFile (state_of before) request)
            → whole_for y → IsWorn new_world before request (ended_by y)
        by (Ok d) dry e = worn_whole disk ambient plugin sink source before request x from new d
        by (Err f) dry e = worn_cut disk ambient plugin sink source before request x from new tells s f dry e

    pub request_begun : RequestStep old_world new_world (state_of before) before.store.cat number request
    request_begun =
        let N : ℕ → Type 0 = λ n. RequestStep old_world new_world (state_of before) before.store.cat n request in
        subst N number_is (begun_cut disk ambient plugin sink source before request x from new result s its)

  pub request_remembers : RemembersDeed line before.store.cat from.outside.moments (disk from.outside.main) (disk new.outside.main)
  request_remembers told settled t main c late left stands =
      let w = (executed no_source).way told settled t main c late left stands in
      let L : Text → Type 0 = λ l. HasLine l c.pending in
      ((w.call, subst L (ap (λ (y : Command). y.line) x_is) w.line_is), w.named)

  pub request_whole : KeepWhole plugin from.outside.moments before.store.cat (disk from.outside.main) (disk new.outside.main) from.outside.stores.items
      new.outside.stores.items
  request_whole = (executed no_source).whole

-- ---- a call by itself

module _ {D A P K : Type 0} (disk : D → DiskState) (ambient : A → AmbientState) (plugin : P → StoreState) (sink : K → SinkState)
    (before : Server) (session user : ℕ) (done : Call) (env : Env) (x : Command) (number : ℕ) (line : Text) (from new : Seen D A P K)
    (result : Result ⊤ calls.Ending) (after : Journal)
    (fits : FitsMain (disk from.outside.main) before) (x_is : x ≡ begun_command before.store.cat.numbers.run number user line)
    (env_is : env ≡ no_env (user_name before.store.cat user))
    (runs : (source : SourceState) (at : State) (request : Request) (vs : List Value) → IsAsked at request before.store.cat x → HasValues done vs
    → (CallsNoRules at request → ⊥) → MakesNoFiles request → DoesCall at request (state_of before).rules env done vs
    → Executes disk ambient plugin sink source at request before.store.cat x from new result after) where
  pub executed_call : (request : Request) (read : CallText) → IsCalled before session user read done → request ≡ Ok (session, executes (Ok read))
      → (source : SourceState) → Executes disk ambient plugin sink source (state_of before) request before.store.cat x from new result after
  executed_call request read called asks source =
      let its : Request = Ok (session, executes (Ok read)) in
      let A : Command → Type 0 = λ y. IsAsked (state_of before) its before.store.cat y in
      let E : Request → Type 0 = λ q. Executes disk ambient plugin sink source (state_of before) q before.store.cat x from new result after in
      subst E (sym asks) (runs source (state_of before) its (map (value (exec_scope (user_name before.store.cat user)) (grid_of before.store.cat)) read.args)
      (subst A (sym x_is) (asked_for before session user called.logged_in (executes (Ok read)) number line
      (fits.users session user called.logged_in) fits.pending fits.rules))
      called.computed.values (λ no. no.0) (makes_none session (executes (Ok read)) (λ makes. makes))
      (does_call before session user called.logged_in read done env env_is called.computed))
