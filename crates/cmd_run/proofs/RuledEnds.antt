-- How a request ends that sets rules, and what the server has then.
use Rattle.std.proofs.Common.{◌≡◌, ◌≢◌, ℕ, ◌<◌, ◌≤◌, List, ◌++◌, Ok, Err, None, map, IsTrue, refl, sym, ap, ◌∙◌, subst, arith}
use Rattle.std.specs.Prelude.{Result, ⊤}
use Rattle.grid_outside.specs.Ambient.{AmbientState}
use Rattle.grid_outside.specs.Disk.{DiskState}
use Rattle.grid_outside.specs.Files.{StoreState}
use Rattle.grid_outside.specs.Source.{SourceState}
use Rattle.grid_outside.specs.Sink.{SinkState}
use Rattle.grid_outside.specs.declared.outside.Outside.{Outside}
use Rattle.grid_model.specs.Checks.{first_fault, rules_faults}
use Rattle.grid_model.specs.Grid.{Grid}
use Rattle.grid_model.specs.Names.{Text}
use Rattle.grid_model.specs.Parsed.{rule_of}
use Rattle.grid_model.specs.Rows.{Cat}
use Rattle.grid_model.specs.RowGrids.{grid_of}
use Rattle.grid_model.specs.Replies.{end_line}
use Rattle.grid_model.specs.RuleText.{Rule}
use Rattle.grid_model.specs.Runs.{Request}
use Rattle.grid_model.specs.Sessions.{State, Sessions}
use Rattle.grid_model.specs.Working.{well}
use Rattle.grid_journal.specs.Stands.{StandsFor}
use Rattle.grid_deed.specs.Held.{IsHeld}
use Rattle.grid_deed.proofs.Keeping.{held_stands}
use Rattle.grid_headline.specs.Worlds.{World}
use Rattle.rule_parse.specs.Printed.{print_rules}
use Rattle.run_laws.specs.Around.{around}
use Rattle.run_laws.specs.Steps.{RequestStep, IsHandledWhole}
use Rattle.run_laws.specs.Went.{Rests}
use Rattle.sess.specs.Places.{Places}
use Rattle.chain_core.specs.Seen.{rules_of}
use Rattle.cmd_run.specs.declared.server.Server.{Server}
use Rattle.cmd_run.specs.declared.server.Ending.{Ending}
use Rattle.cmd_run.specs.Answers.{IsTextPut, PutEnds}
use Rattle.cmd_run.specs.Fits.{AreUsers, FitsMain, state_by, state_of}
use Rattle.cmd_run.specs.Keeps.{IsKeptSo}
use Rattle.cmd_run.specs.Obeys.{Obeys, handled}
use Rattle.cmd_run.specs.Rules.{BeginsToSet, ruled}
use Rattle.cmd_run.proofs.Resting.{gave_same, caused_same}
use Rattle.cmd_run.proofs.RuledRows.{grid_ruled, keeps_users}
use Rattle.cmd_run.proofs.RuledSteps.{cut_short, said, whole}
use Rattle.cmd_run.proofs.Users.{users_stay, sessions_stay}
use Rattle.cmd_run.proofs.Vaults.{some_vault}

-- a device that was not called
rests_self : (s : SinkState) → Rests s s
rests_self s = record { faults = omega arith; tells = refl; last = refl; holds = λ told. refl; left = λ t image left. left }

module _ {D A P : Type 0} (disk : D → DiskState) (ambient : A → AmbientState) (plugin : P → StoreState) (source : SourceState) (o n : Outside D A P)
    (from to : SinkState) (server after_server : Server) (number : ℕ) (request : Request) (printed : Text) (rules : List Rule)
    (ambient_same : n.ambient ≡ o.ambient) (stores_same : n.stores ≡ o.stores) (fits : FitsMain (disk o.main) server) (sink_last : from.last ≤ o.moments)
    (s : BeginsToSet (state_of server) request rules) (printed_is : printed ≡ print_rules rules) where
  abbrev c : Cat
  c = server.store.cat

  abbrev after : Cat
  after = ruled number printed c

  some : 0 < c.numbers.next_vault
  some = some_vault c fits.held.made

  abbrev old : World P
  old = around disk ambient plugin o from source

  -- the keeping failed
  pub cut_in_keeping : (e : Ending) → IsKeptSo c after o.moments (disk o.main) (disk n.main) (Err e) after_server
      → Obeys old (around disk ambient plugin n from source) server number request (Err e) after_server
  cut_in_keeping e k =
      handled (cut_short old (around disk ambient plugin n from source) (state_of server) c number request printed rules s printed_is refl fits.rules some
      (caused_same disk ambient plugin source o n from from stores_same) (gave_same disk ambient plugin source o n ambient_same) sink_last
      k.leaves (rests_self from)) tt

  module _ (mid : ℕ) (kept_server : Server) (k : IsKeptSo c after o.moments (disk o.main) (disk n.main) (Ok tt) kept_server)
      (store_same : after_server.store ≡ kept_server.store) (sessions_same : after_server.sessions ≡ server.sessions)
      (rules_are : rules_of after_server.rules ≡ rules) (checked : first_fault (rules_faults (map rule_of after_server.rules.rules)) ≡ None)
      (put : IsTextPut (end_line number well) mid from to) (later : o.moments ≤ mid) (main_last : (disk n.main).last ≤ mid)
      (tells : (disk n.main).tells ≡ (disk o.main).tells) where
    abbrev new : World P
    new = around disk ambient plugin n to source

    cat_is : after_server.store.cat ≡ after
    cat_is = ap (λ x. x.cat) store_same ∙ k.ends.cat

    stands : IsTrue (disk o.main).tells → StandsFor (disk n.main).holds after
    stands told = held_stands after (disk n.main) kept_server.store k.ends.held (subst IsTrue (sym tells) told)

    abbrev step : RequestStep old new (state_of server) c number request
    step = said old new (state_of server) c number request printed rules s printed_is refl fits.rules some
        (caused_same disk ambient plugin source o n from to stores_same) (gave_same disk ambient plugin source o n ambient_same) sink_last
        k.leaves mid put later main_last stands k.ends.settled

    -- the state with these rules
    state_new : s.d.state ≡ state_of after_server
    state_new =
        s.state
        ∙ ap (λ (x : Grid). (let t : State = record { grid = x; rules = rules; sessions = (state_of server).sessions } in t))
        (sym (grid_ruled number printed c some))
        ∙ ap (λ (x : Sessions). (let t : State = record { grid = grid_of after; rules = rules; sessions = x } in t))
        (sym (sessions_stay c after server.sessions (keeps_users number printed c) fits.users))
        ∙ ap (λ (x : Places). state_by after rules x) (sym sessions_same)
        ∙ ap (λ (x : List Rule). state_by after x after_server.sessions) (sym rules_are)
        ∙ ap (λ (x : Cat). state_by x (rules_of after_server.rules) after_server.sessions) (sym cat_is)

    whole_step : printed ≢ c.rules → (IsTrue from.tells → to.holds ≡ from.holds ++ end_line number well)
        → IsHandledWhole old new (state_of server) c number request step after_server.store.cat (state_of after_server)
    whole_step differs all =
        let W : Cat → Type 0 = λ x. IsHandledWhole old new (state_of server) c number request step x (state_of after_server) in
        subst W (sym cat_is) (whole old new (state_of server) c number request printed rules s printed_is refl fits.rules some
        (caused_same disk ambient plugin source o n from to stores_same) (gave_same disk ambient plugin source o n ambient_same) sink_last
        k.leaves mid put later main_last stands k.ends.settled differs (state_of after_server) state_new (ap grid_of (sym cat_is)) all)

    fits_new : FitsMain (disk n.main) after_server
    fits_new =
        let H : _ → Type 0 = λ x. IsHeld x.cat (disk n.main) x in
        let K : Cat → Type 0 = λ x. IsHeld x (disk n.main) kept_server.store in
        let U : Cat → Type 0 = λ x. AreUsers x after_server.sessions in
        let V : Places → Type 0 = λ x. AreUsers after x in
        record {
          held = subst H (sym store_same) (subst K (sym k.ends.cat) k.ends.held);
          staged = ap (λ x. x.staged) store_same ∙ k.ends.staged;
          pending = ap (λ (x : Cat). x.pending) cat_is ∙ fits.pending;
          rules = ap (λ (x : Cat). x.rules) cat_is ∙ printed_is ∙ ap print_rules (sym rules_are);
          checked = checked;
          users = subst U (sym cat_is) (subst V (sym sessions_same) (users_stay c after server.sessions (keeps_users number printed c) fits.users));
        }

    pub said_then : printed ≢ c.rules → (result : Result ⊤ Ending) → PutEnds (end_line number well) from to result
        → Obeys old new server number request result after_server
    said_then differs (Ok done) ends = handled step (whole_step differs ends, fits_new)
    said_then differs (Err e) ends = handled step tt
