-- What a turn does to a run.
use Rattle.std.proofs.Common.{◌≡◌, ◌⊎◌, inl, inr, ℕ, ◌+◌, ◌^◌, ◌≤◌, Bool, true, false, List, [], ◌∷◌, ◌++◌, length, length-append, refl, sym, ap, ◌∙◌, subst, arith, IsTrue}
use Rattle.std.specs.Prelude.{Option, Some, None, Result, Ok, Err, ⊤, ◌||◌}
use Rattle.grid_outside.specs.declared.outside.Wear.{Wear}
use Rattle.grid_outside.specs.declared.outside.Wear.TheVariants as wear
use Rattle.grid_model.specs.Inputs.{Asked}
use Rattle.grid_model.specs.Rows.{Cat}
use Rattle.grid_headline.specs.Ends.{read_all, worn, EndsAtEnd, EndsInRequest}
use Rattle.grid_headline.specs.Headline.{Serves}
use Rattle.grid_headline.specs.Served.{BeginsWithRequests}
use Rattle.run_laws.specs.declared.around.Around.{Around}
use Rattle.run_laws.specs.Sofar.{CallsGoOn, Sofar}
use Rattle.run_laws.proofs.BuiltOrders.{removes_nothing}
use Rattle.run_laws.specs.Steps.{NotesLine}
use Rattle.run_laws.specs.Went.{AreInOrder}
use Rattle.run_laws.proofs.RunLaws.{read_on}
use Rattle.req_lines.specs.Hearing.{Hears, ahead}
use Rattle.req_lines.specs.Progress.{HasHeard, HeardAll}
use Rattle.req_lines.specs.declared.requests.Heard.{Heard}
use Rattle.req_lines.proofs.ProgressLemmas.{heard_first, heard_ahead, heard_more, heard_last}
use Rattle.cmd_run.specs.Fits.{state_of}
use Rattle.cmd_run.specs.Obeys.{Obeys, IsWorn}
use Rattle.cmd_run.specs.Sweeping.{SweepLeavesFew}
use Rattle.cmd_run.specs.declared.server.Server.{Server}
use Rattle.cmd_run.specs.declared.server.Ending.{Ending}
use Rattle.cmd_run.specs.declared.server.Ending.TheVariants as ending
use Rattle.grid_server.specs.Serving.{IsAfter, IsBegun, HasAnswered, before}
use Rattle.cmd_run.specs.Asking.{IsLineOf, ends_input}
use Rattle.grid_server.specs.Turning.{Commanded, IsUncalledOrBegun, TakesTurn, handled, none_left, too_long as goes_past, broken_off, no_memory as memory_gone, after, command_of, input_of, is_last, status_of}
use Rattle.grid_server.specs.Views.{Views, WasRead, PassesOn, world_of}
use Rattle.grid_server.specs.declared.service.Service.{Service}
use Rattle.grid_server.specs.declared.status.Status.{Status}
use Rattle.grid_server.specs.declared.status.Status.TheVariants as status
use Rattle.grid_server.proofs.AnsweredLemmas.{answered_more, fits_more, keeps_whole, none_end_more, notes_line, obeys_at, step_at}
use Rattle.grid_server.proofs.AskLemmas.{Asks, asks_so, kept_line, not_ending}
use Rattle.grid_server.proofs.EndLemmas.{end_of, last_answered, stops_before, stops_dry, stops_in}
use Rattle.grid_server.proofs.TurnLemmas.{goes_on}
use Rattle.grid_server.proofs.ViewLemmas.{order_of, passes_as, passes_then, went_of}

pub or_first : (a b : Bool) → (a || b) ≡ false → a ≡ false
or_first true b e = absurd (cc e)
or_first false b e = refl

or_second : (a b : Bool) → (a || b) ≡ false → b ≡ false
or_second true b e = absurd (cc e)
or_second false b e = e

vaults_not : (what : Wear) (place other : ℕ) → (what ≡ wear.Vaults → ⊥) → (let e : Ending = ending.Worn what place in e ≡ ending.Worn wear.Vaults other) → ⊥
vaults_not what place other not e = let same : what ≡ wear.Vaults = cc in not same

module _ {D S K A P : Type 0} (v : Views D S K A P) (from : Server) (start mid new : Around D S K A P) (was now : Service) (result : Option Status)
    (so_far : IsAfter v from start mid was) (passes : PassesOn v (result ≡ Some status.DiskFault) (result ≡ Some status.SinkFault) mid new)
    (read : WasRead (v.source mid.source) (v.source new.source)) where
  -- what was before the request was handled
  abbrev by : Around D S K A P
  by = record mid { source = new.source }

  pub told_mid : IsTrue (v.source start.source).tells → IsTrue (v.source mid.source).tells
  told_mid told = subst IsTrue (sym so_far.source.tells) told

  pub told_new : IsTrue (v.source start.source).tells → IsTrue (v.source new.source).tells
  told_new told = subst IsTrue (sym read.tells) (told_mid told)

  module _ (heard : Heard) (r : Result ⊤ Ending) (hears : Hears (input_of was (v.source mid.source)) (input_of now (v.source new.source)) heard) (number : now.number ≡ was.number + 1)
      (cmd : Commanded (world_of v by) (world_of v new) (command_of was heard) r now.server) where
    pub asks : Asks (state_of was.server) hears.asked.line hears.asked.body heard.asked heard.body
    asks = asks_so (state_of was.server) hears.asked.line hears.asked.body heard.body heard.asked hears.read hears.held

    obeyed : Obeys (world_of v by) (world_of v new) was.server (was.number + 1) asks.request r now.server
    obeyed = cmd.obeys asks.request asks.asks

    -- of a request behind which there is more
    pub more_heard : (asked : List Asked) → IsTrue (v.source start.source).tells → HasHeard (v.source start.source) (input_of was (v.source mid.source)) asked → heard.ends ≡ false
        → HasHeard (v.source start.source) (input_of now (v.source new.source)) (asked ++ hears.asked ∷ [])
    more_heard asked told so = heard_more (v.source start.source) (input_of was (v.source mid.source)) asked so (input_of now (v.source new.source)) heard (told_mid told) hears

    pub all_heard : (asked : List Asked) → IsTrue (v.source start.source).tells → HasHeard (v.source start.source) (input_of was (v.source mid.source)) asked → heard.ends ≡ true
        → HeardAll (v.source start.source) (v.source new.source) (asked ++ hears.asked ∷ [])
    all_heard asked told so = heard_last (v.source start.source) (input_of was (v.source mid.source)) asked so (input_of now (v.source new.source)) heard (told_mid told) (told_new told) hears

    first_with : (asked : List Asked) → IsTrue (v.source start.source).tells → HasHeard (v.source start.source) (input_of was (v.source mid.source)) asked → (b : Bool) → heard.ends ≡ b
        → BeginsWithRequests (v.source start.source).left (asked ++ hears.asked ∷ [])
    first_with asked told so false e = inl (ahead (input_of now (v.source new.source)), heard_first (v.source start.source) (input_of now (v.source new.source)) (asked ++ hears.asked ∷ []) (more_heard asked told so e))
    first_with asked told so true e = inr (all_heard asked told so e).are

    module _ (told : IsTrue (v.source start.source).tells) (asked : List Asked) (ans : HasAnswered v from start mid was asked) (order : AreInOrder (world_of v start)) (e : Around D S K A P) (found : Cat)
        (began : IsBegun v (before v e start) start found from) where
      so_read : Sofar (world_of v (before v e start)) (world_of v by) found was.server.store.cat (state_of was.server) asked
      so_read = read_on (v.source new.source) (ans.so e found began)

      main_told : IsTrue (v.disk mid.outside.main).tells
      main_told = subst IsTrue (sym so_read.ran.went.main.tells) began.begin.main_tells

      order_by : AreInOrder (world_of v by)
      order_by = let o = order_of v ⊥ ⊥ start mid so_far.passes order in record { main_last = o.main_last; spare_last = o.spare_last; sink_last = o.sink_last; stores_last = o.stores_last }

      its_line : IsLineOf heard.asked heard.line hears.asked.line
      its_line = kept_line heard.asked heard.line hears.asked.line hears.keeps

      goes_by : CallsGoOn (v.source start.source).left (world_of v by) (world_of v new) was.server.store.cat
      goes_by = record {
        order = order_by;
        went = went_of v (result ≡ Some status.DiskFault) (result ≡ Some status.SinkFault) by new passes;
        few = cmd.moments;
        whole = keeps_whole v by new (command_of was heard) r now.server main_told cmd hears.asked.line its_line;
        names = λ none main_tells settled t main d late left stands.
            let named = removes_nothing asks.means (none asked hears.asked (first_with asked told ans.heard heard.ends refl)) in
            (cmd.remembers asks.request asks.asks named main_tells settled t main d late left stands).1;
      }

      notes_by : NotesLine hears.asked.line (world_of v by) (world_of v new)
      notes_by = notes_line v by new (command_of was heard) r now.server cmd hears.asked.line its_line

      obeyed_at : Obeys (world_of v by) (world_of v new) was.server (length asked + 1) asks.request r now.server
      obeyed_at = obeys_at (world_of v by) (world_of v new) was.server was.number (length asked) asks.request r now.server ans.many obeyed

      few_by : (done : ⊤) → r ≡ Ok done → SweepLeavesFew (world_of v by) (world_of v new) was.server asks.request (Ok done) now.server
      few_by done is =
          let F : Result ⊤ Ending → Type 0 = λ x. SweepLeavesFew (world_of v by) (world_of v new) was.server asks.request x now.server in
          subst F is (cmd.few asks.request asks.asks)

      begins_short : BeginsWithRequests (v.source start.source).left asked
      begins_short = inl (ahead (input_of was (v.source mid.source)), heard_first (v.source start.source) (input_of was (v.source mid.source)) asked ans.heard)

      begins_with : BeginsWithRequests (v.source start.source).left (asked ++ hears.asked ∷ [])
      begins_with = first_with asked told ans.heard heard.ends refl

      -- the run goes on
      sofar_more : (done : ⊤) → r ≡ Ok done → ends_input heard.asked ≡ false
          → Sofar (world_of v (before v e start)) (world_of v new) found now.server.store.cat (state_of now.server) (asked ++ hears.asked ∷ [])
      sofar_more done is others =
          let O : Result ⊤ Ending → Type 0 = λ x. Obeys (world_of v by) (world_of v new) was.server (length asked + 1) asks.request x now.server in
          answered_more now.server began.begin so_read goes_by notes_by asks.means done (subst O is obeyed_at) (few_by done is) (not_ending hears.asked.line hears.asked.body heard.asked hears.read others)

      -- the run ends with it
      pub ends_last : (done : ⊤) → r ≡ Ok done → EndsAtEnd (asked ++ hears.asked ∷ []) (v.source start.source) (v.source new.source) ⊎ EndsInRequest (asked ++ hears.asked ∷ []) (v.source start.source) (v.source new.source)
          → Serves (world_of v (before v e start)) (world_of v new) found read_all
      ends_last done is reads =
          let O : Result ⊤ Ending → Type 0 = λ x. Obeys (world_of v by) (world_of v new) was.server (length asked + 1) asks.request x now.server in
          last_answered now.server began.begin so_read goes_by notes_by asks.means begins_with done (subst O is obeyed_at) (few_by done is) reads

      -- something ran out or failed in it
      pub ends_stopped : (x : Ending) → r ≡ Err x → result ≡ Some (status_of x)
          → ((place : ℕ) → r ≡ Err (ending.Worn wear.Vaults place) → IsUncalledOrBegun v by new (command_of was heard))
          → Serves (world_of v (before v e start)) (world_of v new) found (end_of x)
      ends_stopped x is status_is dry = by_ending x is status_is
        where
          at_err : (y : Ending) → r ≡ Err y → Obeys (world_of v by) (world_of v new) was.server (length asked + 1) asks.request (Err y) now.server
          at_err y is = let O : Result ⊤ Ending → Type 0 = λ z. Obeys (world_of v by) (world_of v new) was.server (length asked + 1) asks.request z now.server in subst O is obeyed_at

          worn_err : (y : Ending) → r ≡ Err y → IsWorn (world_of v new) was.server asks.request (Err y)
          worn_err y is = let W : Result ⊤ Ending → Type 0 = λ z. IsWorn (world_of v new) was.server asks.request z in subst W is (cmd.worn asks.request asks.asks)

          new_told : IsTrue (v.disk new.outside.main).tells
          new_told = subst IsTrue (sym goes_by.went.main.tells) main_told

          others : (y : Ending) → r ≡ Err y → result ≡ Some (status_of y) → ((place : ℕ) → y ≡ ending.Worn wear.Vaults place → ⊥) → Serves (world_of v (before v e start)) (world_of v new) found (end_of y)
          others y is status_is not_vaults = stops_in now.server began.begin so_read goes_by notes_by asks.means begins_with y (at_err y is) begins_short (worn_err y is) new_told not_vaults
              (λ d. passes.frame.cause (status_is ∙ ap (λ z. Some (status_of z)) d)) (λ d. passes.sink_cause (status_is ∙ ap (λ z. Some (status_of z)) d))

          dried : (place : ℕ) → r ≡ Err (ending.Worn wear.Vaults place) → IsUncalledOrBegun v by new (command_of was heard)
              → Serves (world_of v (before v e start)) (world_of v new) found (worn wear.Vaults place)
          dried place is (inl same) =
              let M : Around D S K A P → Type 0 = λ a. IsWorn (world_of v a) was.server asks.request (Err (ending.Worn wear.Vaults place)) in
              let N : Around D S K A P → Type 0 = λ a. Serves (world_of v (before v e start)) (world_of v a) found (worn wear.Vaults place) in
              let equal : new ≡ by = λ i. record { outside = same.0 i; source = new.source; sink = same.1 i } in
              subst N (sym equal) (stops_before was.server place began.begin so_read asks.means begins_with begins_short main_told (subst M equal (worn_err (ending.Worn wear.Vaults place) is)))
          dried place is (inr begun) =
              let step = step_at (world_of v by) (world_of v new) was.server was.number (length asked) asks.request ans.many (begun asks.request asks.asks) in
              stops_dry was.server place began.begin so_read goes_by notes_by asks.means begins_with step new_told (worn_err (ending.Worn wear.Vaults place) is)

          by_ending : (y : Ending) → r ≡ Err y → result ≡ Some (status_of y) → Serves (world_of v (before v e start)) (world_of v new) found (end_of y)
          by_ending (ending.Worn wear.Vaults place) is status_is = dried place is (dry place is)
          by_ending ending.Memory is status_is = others ending.Memory is status_is (λ place x. cc x)
          by_ending ending.Disk is status_is = others ending.Disk is status_is (λ place x. cc x)
          by_ending ending.Sink is status_is = others ending.Sink is status_is (λ place x. cc x)
          by_ending (ending.Worn wear.Runs place) is status_is = others (ending.Worn wear.Runs place) is status_is (λ other x. vaults_not wear.Runs place other (λ y. cc y) x)
          by_ending (ending.Worn wear.Log place) is status_is = others (ending.Worn wear.Log place) is status_is (λ other x. vaults_not wear.Log place other (λ y. cc y) x)

  -- ---- the run goes on

  handled_on : (heard : Heard) (r : Result ⊤ Ending) → result ≡ after (is_last heard) r → (hears : Hears (input_of was (v.source mid.source)) (input_of now (v.source new.source)) heard) → now.number ≡ was.number + 1
      → Commanded (world_of v by) (world_of v new) (command_of was heard) r now.server → result ≡ None → AreInOrder (world_of v start) → new.outside.moments ≤ mid.outside.moments + 2 ^ 79 → IsAfter v from start new now
  handled_on heard r status_is hears number cmd none order drawn =
      let on = goes_on (is_last heard) r (sym status_is ∙ none) in
      let more : heard.ends ≡ false = or_first heard.ends (ends_input heard.asked) on.0 in
      let others : ends_input heard.asked ≡ false = or_second heard.ends (ends_input heard.asked) on.0 in
      let O : Result ⊤ Ending → Type 0 = λ x. Obeys (world_of v by) (world_of v new) was.server (was.number + 1) (asks heard r hears number cmd).request x now.server in
      let fit = fits_more (world_of v by) (world_of v new) was.server (was.number + 1) (asks heard r hears number cmd).request on.1.0 now.server (subst O on.1.1 (obeyed heard r hears number cmd)) in
      let further = heard_ahead (input_of was (v.source mid.source)) (input_of now (v.source new.source)) heard hears more in
      record {
        fits = fit.0;
        slots = omega (arith, fit.1, so_far.slots, passes.frame.stores.count, new.outside.stores.ok.0, mid.outside.stores.ok.0);
        within = omega (arith, number, further, so_far.within);
        most = hears.over.most;
        passes = passes_then v ⊥ ⊥ ⊥ ⊥ start mid new (λ x. x) so_far.passes
            (passes_as v (result ≡ Some status.DiskFault) (result ≡ Some status.SinkFault) ⊥ ⊥ mid new (λ d. cc (d, none)) (λ x. absurd x) (λ x. absurd x) passes);
        drawn = omega (arith, number, drawn, so_far.drawn);
        source = record { faults = omega (arith, so_far.source.faults, read.faults); tells = read.tells ∙ so_far.source.tells };
        answered = λ told.
            let a = so_far.answered told in (
              a.0 ++ hears.asked ∷ [],
              record {
                heard = more_heard heard r hears number cmd a.0 told a.1.heard more;
                many = omega (arith, number, a.1.many, length-append a.0 (hears.asked ∷ []));
                none_end = none_end_more a.0 hears.asked a.1.none_end (not_ending hears.asked.line hears.asked.body heard.asked hears.read others);
                so = λ e found began. sofar_more heard r hears number cmd told a.0 a.1 order e found began on.1.0 on.1.1 others;
              },
            );
      }

  pub after_turn : TakesTurn v mid new was now result → result ≡ None → AreInOrder (world_of v start) → new.outside.moments ≤ mid.outside.moments + 2 ^ 79 → IsAfter v from start new now
  after_turn (handled heard r is hears number cmd dry) none order drawn = handled_on heard r is hears number cmd none order drawn
  after_turn (none_left is end same) none order drawn = absurd (cc (is, none))
  after_turn (goes_past is past same) none order drawn = absurd (cc (is, none))
  after_turn (broken_off is broken same) none order drawn = absurd (cc (is, none))
  after_turn (memory_gone is stopped same) none order drawn = absurd (cc (is, none))

  -- one request more was begun
  pub one_turn : TakesTurn v mid new was now result → result ≡ None → now.number ≡ was.number + 1
  one_turn (handled heard r is hears number cmd dry) none = number
  one_turn (none_left is end same) none = absurd (cc (is, none))
  one_turn (goes_past is past same) none = absurd (cc (is, none))
  one_turn (broken_off is broken same) none = absurd (cc (is, none))
  one_turn (memory_gone is stopped same) none = absurd (cc (is, none))
