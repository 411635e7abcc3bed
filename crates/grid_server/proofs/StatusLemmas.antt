-- The status of a run after its last turn.
use Rattle.std.proofs.Common.{◌≡◌, ◌⊎◌, inl, inr, ℕ, ◌+◌, ◌^◌, Bool, true, false, List, [], ◌∷◌, ◌++◌, length, length-append, refl, sym, ap, ◌∙◌, subst, arith, IsTrue}
use Rattle.std.specs.Prelude.{Option, Some, Result, Ok, Err, ⊤, ◌||◌, vec_len}
use Rattle.grid_outside.specs.Fault.{Rose}
use Rattle.grid_outside.specs.declared.outside.Wear.{Wear}
use Rattle.grid_outside.specs.declared.outside.Wear.TheVariants as wear
use Rattle.grid_model.specs.Inputs.{Asked, none_taken}
use Rattle.grid_model.specs.Rows.{Cat}
use Rattle.grid_model.specs.Runs as runs
use Rattle.grid_headline.specs.Ends.{RunEnd, read_all, source_failed, too_long, no_memory, ReadsMost, EndsAtEnd, EndsInRequest}
use Rattle.grid_headline.specs.Headline.{Serves}
use Rattle.grid_headline.specs.Served.{BeginsWithRequests}
use Rattle.grid_headline.specs.Worlds.{World}
use Rattle.run_laws.specs.declared.around.Around.{Around}
use Rattle.run_laws.specs.Sofar.{Sofar}
use Rattle.run_laws.specs.Went.{AreInOrder}
use Rattle.run_laws.proofs.RunLaws.{read_on, ends_well, ends_idle}
use Rattle.grid_outside.specs.Source.{SourceState}
use Rattle.req_lines.specs.Reading.{Input}
use Rattle.req_lines.specs.Hearing.{Hears, ahead}
use Rattle.req_lines.specs.declared.requests.Heard.{Heard}
use Rattle.req_lines.proofs.ProgressLemmas.{heard_nothing, heard_first, heard_within, heard_none, heard_most, heard_part}
use Rattle.cmd_run.specs.Fits.{FitsMain, state_of}
use Rattle.cmd_run.specs.declared.server.Server.{Server}
use Rattle.cmd_run.specs.declared.server.Ending.{Ending}
use Rattle.cmd_run.specs.declared.server.Ending.TheVariants as ending
use Rattle.cmd_run.specs.Obeys.{IsWornAt}
use Rattle.grid_server.specs.RunEnds.{run_end_of}
use Rattle.grid_server.specs.Serving.{IsAfter, IsBegun, HasAnswered, TookFew, before}
use Rattle.cmd_run.specs.Asking.{ends_input}
use Rattle.grid_server.specs.Turning.{Commanded, IsUncalledOrBegun, TakesTurn, handled, none_left, too_long as goes_past, broken_off, no_memory as memory_gone, after, command_of, input_of, is_last, status_of}
use Rattle.grid_server.specs.Views.{Views, WasRead, PassesOn, world_of}
use Rattle.grid_server.specs.Wearing.{HasWorn}
use Rattle.grid_server.specs.declared.service.Service.{Service}
use Rattle.grid_server.specs.declared.status.Status.{Status}
use Rattle.grid_server.specs.declared.status.Status.TheVariants as status
use Rattle.grid_server.proofs.AskLemmas.{ends_input_so}
use Rattle.grid_server.proofs.EndLemmas.{end_is, end_of, end_of_status, reads_end, reads_part, reads_most, reads_to_end, took_all, took_most, took_part, took_stopped, took_within}
use Rattle.grid_server.proofs.ServingLemmas.{asks, more_heard, all_heard, ends_last, ends_stopped}
use Rattle.grid_server.proofs.TurnLemmas.{after_worn, ending_behind, some_is}
use Rattle.grid_server.proofs.ViewLemmas.{passes_as, passes_none, passes_then, read_same}

-- ---- before the first request

module _ {D S K A P : Type 0} (v : Views D S K A P) (server : Server) (start : Around D S K A P) (fits : FitsMain (v.disk start.outside.main) server)
    (slots : server.store.cat.stores ≡ vec_len start.outside.stores) where
  starts_with : (s : Service) → s.server ≡ server → s.requests.unread ≡ [] → s.requests.taken ≡ 0 → s.number ≡ 0 → IsAfter v server start start s
  starts_with s is unread taken number =
      let I : Server → Type 0 = λ x. IsAfter v server start start (record s { server = x }) in
      subst I (sym is) (record {
        fits = fits;
        slots = slots;
        within = omega (arith, number, taken, ap length unread);
        most = omega (arith, taken);
        passes = passes_none v ⊥ ⊥ start start (λ x. x) (λ x. x) refl refl;
        drawn = omega (arith, number);
        source = read_same v.source start.source;
        answered = λ told. (
          [],
          record {
            heard = heard_nothing (v.source start.source) s.requests unread taken;
            many = number;
            none_end = tt;
            so = λ e found began. began.so;
          },
        );
      })

  pub starts : (s : Service) → s.server ≡ server → s.requests.unread ≡ [] → s.requests.taken ≡ 0 → s.number ≡ 0 → IsAfter v server start start s
  starts = starts_with

  -- there was no memory for the first request
  pub ends_first : (e : Around D S K A P) (found : Cat) (end : RunEnd) → IsBegun v (before v e start) start found server → run_end_of status.Memory ≡ Some end
      → Serves (world_of v (before v e start)) (world_of v start) found end
  ends_first e found end began its =
      let is : no_memory ≡ end = cc in
      let S : RunEnd → Type 0 = λ x. Serves (world_of v (before v e start)) (world_of v start) found x in
      subst S is (ends_idle began.begin began.so (inl ((v.source start.source).left, none_taken)) tt (λ none fits. tt))

-- ---- after the last turn

pub no_long : (x : Ending) (taken : ℕ) → status_of x ≡ status.Long taken → ⊥
no_long ending.Disk taken e = cc e
no_long ending.Sink taken e = cc e
no_long ending.Memory taken e = cc e
no_long (ending.Worn what place) taken e = cc e

long_is : (m n : ℕ) → (let s : Option Status = Some (status.Long m) in s ≡ Some (status.Long n)) → m ≡ n
long_is m n e = cc e

or_true : (a b : Bool) → a ≡ false → (a || b) ≡ true → b ≡ true
or_true true b none is = absurd (cc none)
or_true false b none is = is

worn_so : {B : Type 0} (what : Wear) (place : ℕ) (new : World B) (before : Server) (request : runs.Request) → IsTrue new.main.tells → IsWornAt new before request place what → HasWorn new.main.holds what place
worn_so wear.Runs place new before request told w = w
worn_so wear.Vaults place new before request told w = let c = w.1 told in (w.0, λ spare. record { cat = c.0; stands = c.1 spare; holds = c.2 })
worn_so wear.Log place new before request told w = let closes = w.1 told in (w.0, record { records = closes.records; log = closes.log; place_is = closes.place_is })

module _ {D S K A P : Type 0} (v : Views D S K A P) (from : Server) (start mid new : Around D S K A P) (was now : Service) (result : Option Status)
    (so_far : IsAfter v from start mid was) (passes : PassesOn v (result ≡ Some status.DiskFault) (result ≡ Some status.SinkFault) mid new)
    (read : WasRead (v.source mid.source) (v.source new.source)) (turns : TakesTurn v mid new was now result) (s : Status) (is : result ≡ Some s) where
  abbrev first_source : SourceState
  first_source = v.source start.source

  abbrev in_was : Input
  in_was = input_of was (v.source mid.source)

  abbrev in_now : Input
  in_now = input_of now (v.source new.source)

  pub all_passes : PassesOn v (s ≡ status.DiskFault) (s ≡ status.SinkFault) start new
  all_passes = passes_then v ⊥ ⊥ (s ≡ status.DiskFault) (s ≡ status.SinkFault) start mid new (λ x. x) so_far.passes
      (passes_as v (result ≡ Some status.DiskFault) (result ≡ Some status.SinkFault) (s ≡ status.DiskFault) (s ≡ status.SinkFault) mid new (λ d. some_is (sym is ∙ d)) (λ d. is ∙ ap Some d) (λ d. is ∙ ap Some d) passes)

  -- ---- what was taken

  took_handled : (told : IsTrue (v.source start.source).tells) (heard : Heard) (r : Result ⊤ Ending) (hears : Hears in_was in_now heard) (number : now.number ≡ was.number + 1)
      (cmd : Commanded (world_of v (record mid { source = new.source })) (world_of v new) (command_of was heard) r now.server) → (b : Bool) → heard.ends ≡ b → TookFew first_source (v.source new.source)
  took_handled told heard r hears number cmd true ends =
      let a = so_far.answered told in
      took_all first_source (v.source new.source) _ (all_heard v from start mid new was now result so_far passes read heard r hears number cmd a.0 told a.1.heard ends)
  took_handled told heard r hears number cmd false ends =
      let a = so_far.answered told in
      took_within first_source (v.source new.source) _ (heard_within first_source in_now _ (more_heard v from start mid new was now result so_far passes read heard r hears number cmd a.0 told a.1.heard ends) hears.over.most)

  pub took_so : IsTrue (v.source start.source).tells → TookFew first_source (v.source new.source)
  took_so told = by turns
    where
      by : TakesTurn v mid new was now result → TookFew first_source (v.source new.source)
      by (handled heard r eq hears number cmd dry) = took_handled told heard r hears number cmd heard.ends refl
      by (none_left eq end same) =
          let a = so_far.answered told in
          took_all first_source (v.source new.source) a.0 (heard_none first_source in_was a.0 a.1.heard in_now (subst IsTrue (sym so_far.source.tells) told) (subst IsTrue (sym read.tells) (subst IsTrue (sym so_far.source.tells) told)) end)
      by (goes_past eq past same) =
          let a = so_far.answered told in
          took_most first_source (v.source new.source) a.0 (heard_most first_source in_was a.0 a.1.heard in_now (subst IsTrue (sym so_far.source.tells) told) past)
      by (broken_off eq broken same) =
          let a = so_far.answered told in
          took_part first_source (v.source new.source) a.0 (heard_part first_source in_was a.0 a.1.heard (v.source new.source) (subst IsTrue (sym so_far.source.tells) told) broken)
      by (memory_gone eq stopped same) =
          let a = so_far.answered told in
          took_stopped first_source (v.source new.source) in_was a.0 a.1.heard (subst IsTrue (sym so_far.source.tells) told) stopped

  pub long_so : (taken : ℕ) → s ≡ status.Long taken → (taken ≡ 2 ^ 48 + 1) × (IsTrue (v.source start.source).tells → (asked : List Asked) × ReadsMost asked first_source (v.source new.source))
  long_so taken long = by turns
    where
      by : TakesTurn v mid new was now result → (taken ≡ 2 ^ 48 + 1) × (IsTrue (v.source start.source).tells → (asked : List Asked) × ReadsMost asked first_source (v.source new.source))
      by (handled heard r eq hears number cmd dry) = let b = ending_behind (status.Long taken) (λ e. cc e) (is_last heard) r (sym eq ∙ is ∙ ap Some long) in absurd (no_long b.0 taken b.2)
      by (none_left eq end same) = absurd (cc (eq, is, long))
      by (goes_past eq past same) = (
        long_is taken (2 ^ 48 + 1) (sym (ap Some long) ∙ sym is ∙ eq),
        λ told.
            let a = so_far.answered told in
            (a.0, reads_most first_source (v.source new.source) a.0 a.1.none_end (heard_most first_source in_was a.0 a.1.heard in_now (subst IsTrue (sym so_far.source.tells) told) past)),
      )
      by (broken_off eq broken same) = absurd (cc (eq, is, long))
      by (memory_gone eq stopped same) = absurd (cc (eq, is, long))

  pub worn_only : (what : Wear) (place : ℕ) → s ≡ status.Worn what place → IsTrue (v.disk start.outside.main).tells → HasWorn (v.disk new.outside.main).holds what place
  worn_only what place worn told = by turns
    where
      by : TakesTurn v mid new was now result → HasWorn (v.disk new.outside.main).holds what place
      by (handled heard r eq hears number cmd dry) =
          let a = asks v from start mid new was now result so_far passes read heard r hears number cmd in
          let failed : r ≡ Err (ending.Worn what place) = after_worn what place (is_last heard) r (sym eq ∙ is ∙ ap Some worn) in
          worn_so what place (world_of v new) was.server a.request (subst IsTrue (sym passes.frame.main.tells) (subst IsTrue (sym so_far.passes.frame.main.tells) told)) (cmd.worn a.request a.asks what place failed)
      by (none_left eq end same) = absurd (cc (eq, is, worn))
      by (goes_past eq past same) = absurd (cc (eq, is, worn))
      by (broken_off eq broken same) = absurd (cc (eq, is, worn))
      by (memory_gone eq stopped same) = absurd (cc (eq, is, worn))

  -- ---- what was promised

  module _ (order : AreInOrder (world_of v start))
      (cause : result ≡ Some status.SourceFault → Rose (v.source mid.source).faults (v.source new.source).faults)
      (e : Around D S K A P) (found : Cat) (end : RunEnd) (began : IsBegun v (before v e start) start found from) (its : run_end_of s ≡ Some end) where
    abbrev old : World P
    old = world_of v (before v e start)

    abbrev is_served : RunEnd → Type 0
    is_served x = Serves old (world_of v new) found x

    -- the end that another word for the status tells
    ends_as : (t : Status) (x : RunEnd) → result ≡ Some t → run_end_of t ≡ Some x → is_served x → is_served end
    ends_as t x eq tells done = subst is_served (end_is s t x end (some_is (sym is ∙ eq)) tells its) done

    told : IsTrue (v.source start.source).tells
    told = began.begin.source_tells

    told_was : IsTrue (v.source mid.source).tells
    told_was = subst IsTrue (sym so_far.source.tells) told

    told_now : IsTrue (v.source new.source).tells
    told_now = subst IsTrue (sym read.tells) told_was

    abbrev asked : List Asked
    asked = (so_far.answered told).0

    ans : HasAnswered v from start mid was asked
    ans = (so_far.answered told).1

    first : BeginsWithRequests (v.source start.source).left asked
    first = inl (ahead in_was, heard_first first_source in_was asked ans.heard)

    sofar_new : new ≡ record mid { source = new.source } → Sofar old (world_of v new) found was.server.store.cat (state_of was.server) asked
    sofar_new same = let W : Around D S K A P → Type 0 = λ a. Sofar old (world_of v a) found was.server.store.cat (state_of was.server) asked in subst W (sym same) (read_on (v.source new.source) (ans.so e found began))

    serves_handled : (heard : Heard) (r : Result ⊤ Ending) → result ≡ after (is_last heard) r → (hears : Hears in_was in_now heard) (number : now.number ≡ was.number + 1)
        (cmd : Commanded (world_of v (record mid { source = new.source })) (world_of v new) (command_of was heard) r now.server)
        → ((place : ℕ) → r ≡ Err (ending.Worn wear.Vaults place) → IsUncalledOrBegun v (record mid { source = new.source }) new (command_of was heard)) → is_served end
    serves_handled heard r eq hears number cmd dry = by_result r refl eq
      where
        by_ends : (b : Bool) → heard.ends ≡ b → is_last heard ≡ true → EndsAtEnd (asked ++ hears.asked ∷ []) first_source (v.source new.source) ⊎ EndsInRequest (asked ++ hears.asked ∷ []) first_source (v.source new.source)
        by_ends true ends last = inl (reads_end first_source (v.source new.source) _ (all_heard v from start mid new was now result so_far passes read heard r hears number cmd asked told ans.heard ends))
        by_ends false ends last =
            inr (reads_to_end first_source (v.source new.source) asked hears.asked (ends_input_so (state_of was.server) hears.asked.line hears.asked.body heard.asked hears.read (or_true heard.ends (ends_input heard.asked) ends last))
            (heard_within first_source in_now _ (more_heard v from start mid new was now result so_far passes read heard r hears number cmd asked told ans.heard ends) hears.over.most))

        by_last : (b : Bool) (done : ⊤) → is_last heard ≡ b → r ≡ Ok done → result ≡ after b (Ok done) → is_served end
        by_last true done last ok eq = ends_as status.Done read_all eq refl (ends_last v from start mid new was now result so_far passes read heard r hears number cmd told asked ans order e found began done ok (by_ends heard.ends refl last))
        by_last false done last ok eq = absurd (cc (eq, is))

        by_result : (x : Result ⊤ Ending) → r ≡ x → result ≡ after (is_last heard) x → is_served end
        by_result (Ok done) ok eq = by_last (is_last heard) done refl ok eq
        by_result (Err x) failed eq =
            ends_as (status_of x) (end_of x) eq (end_of_status x) (ends_stopped v from start mid new was now result so_far passes read heard r hears number cmd told asked ans order e found began x failed eq dry)

    pub serves_so : is_served end
    serves_so = by turns
      where
        by : TakesTurn v mid new was now result → is_served end
        by (handled heard r eq hears number cmd dry) = serves_handled heard r eq hears number cmd dry
        by (none_left eq none same) =
            let all = heard_none first_source in_was asked ans.heard in_now told_was told_now none in
            ends_as status.Done read_all eq refl (ends_well began.begin (sofar_new same) (inr all.are) (inl (reads_end first_source (v.source new.source) asked all)) (λ no_fault fits. tt))
        by (goes_past eq past same) =
            let most = heard_most first_source in_was asked ans.heard in_now told_was past in
            ends_as (status.Long (2 ^ 48 + 1)) (too_long (2 ^ 48 + 1)) eq refl
            (ends_well began.begin (sofar_new same) first (reads_most first_source (v.source new.source) asked ans.none_end most, refl)
            (λ no_fault fits. absurd (omega (arith, fits, most.size, ap length most.split, length-append most.taken (v.source new.source).left))))
        by (broken_off eq broken same) =
            let part = heard_part first_source in_was asked ans.heard (v.source new.source) told_was broken in
            ends_as status.SourceFault source_failed eq refl
            (ends_well began.begin (sofar_new same) first (reads_part first_source (v.source new.source) asked part)
            (λ no_fault fits. absurd (no_fault.of_source (let rose = cause eq in omega (arith, rose, so_far.source.faults)))))
        by (memory_gone eq stopped same) = ends_as status.Memory no_memory eq refl (ends_idle began.begin (sofar_new same) first tt (λ no_fault fits. tt))
