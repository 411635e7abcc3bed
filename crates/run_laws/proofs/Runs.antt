-- What was undone and the requests that were handled are a run, of which all that is promised holds.
use Rattle.std.proofs.Common.{◌≡◌, ◌⊎◌, inl, inr, ℕ, ◌+◌, ◌-◌, List, [], ◌∷◌, ◌++◌, length, take, drop, slice_get, Option, Some, None, Ok, IsTrue, refl, sym, ap, ◌∙◌, subst, append_assoc, length-append, take-append-drop, arith}
use Rattle.std.specs.Prelude.{◌≢◌, max}
use Rattle.std.proofs.Math.Seq.{take-append_seam}
use Rattle.std.proofs.lemmas.List.{length-take-le, take_all, nil_from_length}
use Rattle.std.proofs.lemmas.Grind.{flat_map-append}
use Rattle.std.proofs.lemmas.Option.{slice_get_within}
use Rattle.grid_outside.specs.declared.outside.Wear.{Wear}
use Rattle.grid_outside.specs.declared.outside.Wear.TheVariants as wear
use Rattle.grid_model.specs.Names.{Text}
use Rattle.grid_model.specs.Rows.{Cat}
use Rattle.grid_model.specs.Inputs.{Asked}
use Rattle.grid_model.specs.Orders.{Order, works, closes, executes}
use Rattle.grid_model.specs.Operations.Table.{put, repl}
use Rattle.grid_model.specs.Sessions.{State}
use Rattle.grid_model.specs.Runs.{Marked, Request}
use Rattle.grid_model.specs.declared.deltas.Pending.{Pending}
use Rattle.grid_model.specs.declared.marks.Mark.{Mark}
use Rattle.grid_model.specs.declared.marks.Mark.TheVariants as mark
use Rattle.grid_headline.specs.Worlds.{World, DevicesImage}
use Rattle.grid_headline.specs.Reads.{HasRules, MeansRequest, EndsInputLast}
use Rattle.grid_headline.specs.Served.{Run, BeginsWithRequests, joined_texts, asked_of, marks_of, whole_in, acknowledged, report_back, report_told, told_marks, first_marks, state_at}
use Rattle.grid_headline.specs.Served as served
use Rattle.grid_headline.specs.Stops.{AreFirst, OneImage, IsBeforeRun, IsAtState, IsInterrupted, KeepsTold, KeepsReport}
use Rattle.grid_headline.specs.Files.{IsKnown, IsOfUnknown, DisksAreSettled, WereWhole}
use Rattle.grid_headline.specs.Causes.{NoneFailed, AllTell}
use Rattle.grid_headline.specs.Draws.{DrawsMarks, AreSomeOf, word_of, time_of, told_words}
use Rattle.grid_headline.specs.Ends.{RunEnd, read_all, source_failed, too_long, worn, no_memory, disk_failed, sink_failed, SaysOfEnd, AnswersAll, HasRunOut, IsExec, Needs, MakesFiles, LeavesFewOrphans}
use Rattle.grid_headline.specs.Headline.{Shows, Completes, Serves, IsGoodEnd}
use Rattle.run_laws.specs.Handled.{replies_of, WaitsBehind, OneOfRun, not_begun, in_run, in_deed_of_run}
use Rattle.run_laws.specs.Handled as handled
use Rattle.run_laws.specs.Steps.{IsToldOf}
use Rattle.run_laws.specs.Sofar.{Ran}
use Rattle.run_laws.specs.Ends.{ReadsSo, IsAnswered, MakesFile, NeedsSo, StopsSo, IsGoodIfNoneFailed}
use Rattle.run_laws.specs.Undone.{Undone, recoveries_told, report_begun, whole_report}
use Rattle.run_laws.proofs.Lists.{all-back, all-map, after-length, state-all}
use Rattle.run_laws.proofs.Causes.{clean, clean-back, clean-both, clean-front, clean-prefix, by_rows-first}
use Rattle.run_laws.proofs.Draws.{AreFirstAt, IsFront, shown, some-all, some-of, some-then, front-shown, some-front, words-shown}
use Rattle.run_laws.proofs.More.{begun-many, done-many}
use Rattle.run_laws.proofs.Recoveries.{recoveries-first}
use Rattle.run_laws.proofs.RunOf.{run-of}
use Rattle.run_laws.proofs.Silence.{had_numbers, none_silent}

of_unknown : (known : ℕ → Type 0) (stores : ℕ) (m : Mark) → IsToldOf known stores m → IsOfUnknown known stores m
of_unknown known stores (mark.Ran word now []) told = tt
of_unknown known stores (mark.Ran word now (b ∷ bad)) told = told
of_unknown known stores (mark.Fault slot sent) told = tt
of_unknown known stores (mark.Bad slot len found sent) told = told.1
of_unknown known stores mark.Stop told = tt

makes_files : (rules : Type 0) (order : Order) → MakesFile order ⊎ rules → MakesFiles order ⊎ IsExec order ⊎ rules
makes_files rules order (inr there) = inr (inr there)
makes_files rules (works (put p r mode body) count) (inl makes) = inl tt
makes_files rules (works (repl p r) count) (inl makes) = inl tt
makes_files rules closes (inl makes) = inl tt
makes_files rules (executes call) (inl makes) = inr (inl tt)
makes_files rules other (inl makes) = absurd makes

-- ---- the run

module _ {B : Type 0} (old new : World B) (found : Cat) (at : State) (asked : List Asked) (ran : Ran old new found at asked)
    (first : BeginsWithRequests old.source.left asked) (end_last : EndsInputLast asked) (main_tells : IsTrue old.main.tells) where
  abbrev u : Undone found
  u = ran.undone

  abbrev run : Run (IsKnown old found) found old.source.left
  run = run-of old new found at asked ran first end_last

  -- ---- what is shown

  abbrev report : Text
  report = whole_report found u

  acknowledged_is : (count : ℕ) → acknowledged run count ≡ whole_in (replies_of ran.handled) (count - length report)
  acknowledged_is count = refl

  first_at : (m : Option Marked) (ts : Option (List Text)) (count : ℕ) → AreFirstAt (first_marks run m ts count) m
  first_at None None count = tt
  first_at None (Some ts) count = tt
  first_at (Some m) None count = (0, refl)
  first_at (Some m) (Some ts) count = (whole_in ts count, refl)

  same_first : (m : Option Marked) (ts : Option (List Text)) (count : ℕ) → first_marks run m ts count ≡ handled.marks_within m ts count
  same_first None None count = refl
  same_first None (Some ts) count = refl
  same_first (Some m) None count = refl
  same_first (Some m) (Some ts) count = refl

  same_told : (k count : ℕ) → told_marks run k count ≡ handled.told_within ran.handled k (count - length report)
  same_told k count =
      let before = joined_texts (take k (replies_of ran.handled)) in
      let e : count - length (report ++ before) ≡ count - length report - length before = omega (arith, length-append report before) in
      same_first (slice_get ran.handled.begun k) (slice_get ran.handled.pieces k) (count - length (served.text_before run k))
      ∙ ap (handled.marks_within (slice_get ran.handled.begun k) (slice_get ran.handled.pieces k)) e

  module _ (count : ℕ) where
    abbrev n : ℕ
    n = acknowledged run count

    first_told : AreFirstAt (told_marks run n count) (slice_get ran.handled.begun n)
    first_told = first_at (slice_get ran.handled.begun n) (slice_get ran.handled.pieces n) (count - length (served.text_before run n))

    -- as the requests that were handled have them
    shown_is : handled.marks_shown ran.handled (count - length report) ≡ marks_of (shown ran.handled.begun (told_marks run n count) n)
    shown_is = ap (λ (ms : List Mark). marks_of (shown ran.handled.begun ms n)) (sym (same_told n count))

    -- those of recoveries
    abbrev undone : List Mark
    undone = recoveries_told found u count

    draws : AreFirst (handled.marks_told found u ran.handled count) ran.drawn → IsTrue new.ambient.tells → DrawsMarks run count old.ambient new.ambient
    draws first tells =
        let g = ran.gave tells in
        let all = marks_of (shown ran.handled.begun (told_marks run n count) n) in
        let front : IsFront (undone ++ all) ran.drawn = record { rest = first.rest; is = first.are ∙ ap (λ (ms : List Mark). (undone ++ ms) ++ first.rest) shown_is } in
        let words = words-shown (told_marks run n count) n ran.after first_told in
        record {
          told = g.told;
          times = g.times;
          times_are = g.times_are;
          times_told = some-of (some-front time_of (undone ++ all) ran.drawn front) g.times_told;
          words = g.words;
          words_are = g.words_are;
          of_requests = words.words;
          have = words.have;
          words_told = some-of (some-then (some-all (told_words undone)) words.in_all)
              (subst (λ (ws : List ℕ). AreSomeOf ws g.words) (flat_map-append word_of undone all) (some-of (some-front word_of (undone ++ all) ran.drawn front) g.words_told));
        }

  shows : IsTrue old.sink.tells → Shows old new run
  shows tells =
      let s = ran.shown tells in
      record {
        part = s.part;
        more = s.more;
        sink = s.is;
        split = s.split;
        report_first = s.report_first;
        all_but_one = omega (arith, s.all_but_one, acknowledged_is (length s.part));
        drawn = draws (length s.part) (ran.told_drawn tells);
      }

  completes : (tells : IsTrue old.sink.tells) (end : RunEnd) → NoneFailed old new → AllTell old → DisksAreSettled old
      → WereWhole old old.moments found → IsGoodEnd end
      → Completes old new run (shows tells) end
  completes tells end none tell settled whole good =
      let of_requests = marks_of ran.handled.begun in
      let all = clean old new (IsKnown old found) (u.report ++ of_requests) none.of_stores
      (λ slot less. record { main = main_tells; settled = settled; whole = whole; there = tell slot less })
      ran.told_of ran.caused in
      let own = clean-back u.report of_requests all in
      let count = length (shows tells).part in
      let undone = recoveries-first found u count in
      let front = front-shown ran.handled.begun (told_marks run (n count) count) (n count) (first_told count) in
      let shown_own = marks_of (shown ran.handled.begun (told_marks run (n count) count) (n count)) in
      record {
        good_end = good;
        clean = clean-both (recoveries_told found u count) shown_own
            (clean-prefix (recoveries_told found u count) undone.rest u.report undone.are (clean-front u.report of_requests all))
            (clean-prefix shown_own front.rest of_requests front.is own);
        by_rows = by_rows-first (n count) ran.handled.begun ran.handled.done (after-length ran.after) ran.by_rows own;
      }

  -- ---- images

  -- the report, up to where the run is begun and behind that, and the replies
  abbrev begun : Text
  begun = report_begun found u

  abbrev behind : Text
  behind = report_back found.pending u.opened.passed

  abbrev replies : Text
  replies = joined_texts (replies_of ran.handled)

  -- what is sure of these
  abbrev sure : Text
  sure = ran.handled.sure

  -- a request that is pending was interrupted there
  interrupted : (c : Cat) (p : Pending) (k : ℕ) → WaitsBehind found u ran.handled c p k → IsInterrupted run c p k
  interrupted c p k behind =
      let w = behind.waits in
      record {
        of_run = w.of_run;
        number = w.number;
        next = behind.next;
        is_next = behind.is_next;
        line = behind.line_is;
        session = w.session;
        order = w.order;
        asks = subst (λ (x : Request). MeansRequest (state_at run k) behind.next.asked x) w.asks behind.means;
        of = w.of;
        logged_in = w.logged_in;
        user = w.name;
        waiting = w.waiting;
        waits_there = w.waits_there;
        running = w.running;
        grid = w.grid;
        taken = w.taken;
        passed = w.passed;
        undo = w.undo;
        kept = w.kept;
      }

  image : (i : DevicesImage) → OneOfRun found u ran.handled old.sink.holds i.main i.sink → OneImage run old.sink.holds i
  image i (not_begun c stands adds b) =
      let so_many : length (take adds.count begun) ≡ adds.count = length-take-le adds.count begun adds.within in
      record {
        cat = c;
        stands = stands i.spare;
        part = take adds.count begun;
        more = drop adds.count begun ++ (behind ++ sure);
        sink = adds.is;
        split = append_assoc begun behind sure ∙ ap (λ (t : Text). t ++ (behind ++ sure)) (sym (take-append-drop adds.count begun))
            ∙ append_assoc (take adds.count begun) (drop adds.count begun) (behind ++ sure);
        on_the_way = inl (subst (IsBeforeRun found u.report c) (sym so_many) b.before);
        told = record {
          of_request = λ e. absurd (omega (arith, e, b.before.number));
          of_report = subst (λ k. KeepsReport found u.report c (report_told found.pending u.report k) c.pending) (sym so_many) b.told;
        };
        numbers = b.keeps;
        stores = b.stores;
      }
  image i (in_run c part more stands is split b) =
      let count = length part in
      let own = count - length report in
      let a : acknowledged run count ≡ whole_in (replies_of ran.handled) own = acknowledged_is count in
      let r : served.reached run c count ≡ handled.reached_by found u ran.handled c own = ap (λ k. max k c.numbers.last) a in
      let s : (state_at run (served.reached run c count)) ≡ handled.state_behind found u ran.handled (handled.reached_by found u ran.handled c own) = ap (state_at run) r in
      record {
        cat = c;
        stands = stands i.spare;
        part = part;
        more = more;
        sink = is;
        split = split;
        on_the_way = inr (record {
          number = b.of_run.number;
          within = omega (arith, b.within, r);
          near = omega (arith, b.near, a);
          rules = subst (λ (x : State). HasRules c x.rules) (sym s) b.rules;
          at = subst (IsAtState run c (served.reached run c count)) (sym b.of_run.none) (b.grid ∙ ap (λ (x : State). x.grid) (sym s));
        });
        told = record {
          of_request = λ e. subst (KeepsTold run (told_marks run (n count) count) (n count) c.numbers.last) (sym b.of_run.none)
              (λ less. same_told (n count) count ∙ ap (λ k. handled.told_within ran.handled k own) a ∙ b.untold (omega (arith, less, a)));
          of_report = subst (KeepsReport found u.report c (report_told found.pending u.report count)) (sym b.of_run.none) tt;
        };
        numbers = b.of_run.keeps;
        stores = b.of_run.stores;
      }
  image i (in_deed_of_run c p k part more stands is split b) =
      let count = length part in
      let own = count - length report in
      let a : acknowledged run count ≡ whole_in (replies_of ran.handled) own = acknowledged_is count in
      let r : served.reached run c count ≡ k = ap (λ j. max j c.numbers.last) a ∙ b.reached in
      let pending : c.pending ≡ Some p = b.waits_behind.waits.is in
      record {
        cat = c;
        stands = stands i.spare;
        part = part;
        more = more;
        sink = is;
        split = split;
        on_the_way = inr (record {
          number = b.of_run.number;
          within = omega (arith, r, slice_get_within ran.handled.begun k b.waits_behind.next b.waits_behind.is_next);
          near = omega (arith, b.near, a);
          rules = subst (λ j. HasRules c (state_at run j).rules) (sym r) b.rules;
          at = subst (IsAtState run c (served.reached run c count)) (sym pending) (subst (IsInterrupted run c p) (sym r) (interrupted c p k b.waits_behind));
        });
        told = record {
          of_request = λ e. subst (KeepsTold run (told_marks run (n count) count) (n count) c.numbers.last) (sym pending) (λ same.
              subst (λ (ms : List Mark). AreFirst ms p.marks) (sym (same_told (n count) count ∙ ap (λ j. handled.told_within ran.handled j own) a)) b.told);
          of_report = subst (KeepsReport found u.report c (report_told found.pending u.report count)) (sym pending) (λ e. absurd (omega (arith, e, b.of_run.number)));
        };
        numbers = b.of_run.keeps;
        stores = b.of_run.stores;
      }

  -- ---- what the end says

  answers : IsAnswered old new found at u ran.handled → AnswersAll run old new
  answers all = record {
    all = all.all;
    text = λ tells. all.text tells ∙ append_assoc old.sink.holds report replies;
    stand = record {
      cat = all.cat;
      stands = all.stands new.spare.holds;
      holds = record { number = all.of_run.number; grid = all.grid; rules = all.rules; none = all.of_run.none };
    };
    still = all.still;
  }

  needs : (what : Wear) → NeedsSo found old.source.left at asked what → Needs run old new what
  needs wear.Runs none = nil_from_length ran.handled.begun (begun-many old new found at asked ran ∙ ap length none)
  needs wear.Vaults (inr recovery) = inr recovery
  needs wear.Vaults (inl next) =
      let many = begun-many old new found at asked ran in
      let k = length asked in
      let now : state_at run k ≡ at = ap (state_at run) (sym (done-many old new found at asked ran)) ∙ state-all ran.after in
      let front : take k (asked_of ran.handled.begun) ≡ asked = ap (take k) ran.asked_are ∙ take_all k asked (omega arith) in
      inl (
        k,
        record {
          at_least = omega (arith, many);
          at_most = omega (arith, many);
          asked = next.next;
          first = subst (λ (l : List Asked). BeginsWithRequests old.source.left (l ++ next.next ∷ [])) (sym front) next.first;
          session = next.session;
          order = next.order;
          asks = subst (λ (x : State). MeansRequest x next.next (Ok (next.session, next.order))) (sym now) next.asks;
          makes = makes_files ((state_at run k).rules ≢ []) next.order (subst (λ (x : State). MakesFile next.order ⊎ (x.rules ≢ [])) (sym now) next.makes);
        },
      )
  needs wear.Log none = tt

  -- the last request that was begun, from this state, may have made files
  pub needs_last : (front : List Asked) (a : Asked) (x : State) (session : ℕ) (order : Order) → asked ≡ front ++ a ∷ [] → state_at run (length front) ≡ x
      → MeansRequest x a (Ok (session, order)) → MakesFile order ⊎ (x.rules ≢ []) → Needs run old new wear.Vaults
  needs_last front a x session order is now asks makes =
      let many = begun-many old new found at asked ran in
      let k = length front in
      let one_more : length asked ≡ length front + 1 = ap length is ∙ length-append front (a ∷ []) in
      let begun_are : asked_of ran.handled.begun ≡ front ++ a ∷ [] = ran.asked_are ∙ is in
      let before : take k (asked_of ran.handled.begun) ≡ front = ap (take k) begun_are ∙ take-append_seam front (a ∷ []) in
      inl (
        k,
        record {
          at_least = omega (arith, many, one_more);
          at_most = omega (arith, many, one_more);
          asked = a;
          first = subst (λ (l : List Asked). BeginsWithRequests old.source.left (l ++ a ∷ [])) (sym before) (subst (BeginsWithRequests old.source.left) is first);
          session = session;
          order = order;
          asks = subst (λ (y : State). MeansRequest y a (Ok (session, order))) (sym now) asks;
          makes = makes_files ((state_at run k).rules ≢ []) order (subst (λ (y : State). MakesFile order ⊎ (y.rules ≢ [])) (sym now) makes);
        },
      )

  reads : (end : RunEnd) → ReadsSo asked old.source new.source end → ReadsSo (asked_of ran.handled.begun) old.source new.source end
  reads end so = subst (λ (l : List Asked). ReadsSo l old.source new.source end) (sym ran.asked_are) so

  says_read : (end : RunEnd) → IsAnswered old new found at u ran.handled → ReadsSo (asked_of ran.handled.begun) old.source new.source end → SaysOfEnd run old new end
  says_read read_all all so = (answers all, so)
  says_read source_failed all so = (answers all, so)
  says_read (too_long taken) all so = (answers all, so.0, so.1)
  says_read other all so = absurd so

  says_stopped : (end : RunEnd) → StopsSo old new found at asked end → SaysOfEnd run old new end
  says_stopped (worn what place) so = (so.0, needs what so.1)
  says_stopped no_memory so = tt
  says_stopped disk_failed so = tt
  says_stopped sink_failed so = tt
  says_stopped other so = absurd so

  says : (end : RunEnd) → (IsAnswered old new found at u ran.handled × ReadsSo asked old.source new.source end) ⊎ StopsSo old new found at asked end
      → SaysOfEnd run old new end
  says end (inl so) = says_read end so.0 (reads end so.1)
  says end (inr so) = says_stopped end so

  -- where all was read, few orphans are left behind a sweep
  leaves_few : (end : RunEnd) → (IsAnswered old new found at u ran.handled × ReadsSo asked old.source new.source end) ⊎ StopsSo old new found at asked end
      → end ≡ read_all → LeavesFewOrphans run old new
  leaves_few end (inl so) e = λ ends none. record { cat = so.0.cat; stands = so.0.stands new.spare.holds; holds = so.0.few ends }
  leaves_few end (inr so) e = absurd (subst (StopsSo old new found at asked) e so)

  -- all that is promised of a run whose end says this
  serves_by : (end : RunEnd) → SaysOfEnd run old new end → (end ≡ read_all → LeavesFewOrphans run old new) → IsGoodIfNoneFailed old new end
      → Serves old new found end
  serves_by end says_so few good = record {
    run = run;
    shown = shows;
    says = says_so;
    unharmed = all-map (IsToldOf (IsKnown old found) (length old.stores)) (IsOfUnknown (IsKnown old found) (length old.stores)) (of_unknown (IsKnown old found) (length old.stores)) (marks_of ran.handled.begun)
        (all-back (IsToldOf (IsKnown old found) (length old.stores)) u.report (marks_of ran.handled.begun) ran.told_of);
    images = λ tells settled t i late leaves. image i (ran.images tells settled t i.main i.sink late leaves.disks.of_main leaves.of_sink);
    whole = ran.whole;
    named = ran.named;
    silent = λ tells settled. none_silent old new found at asked ran first end_last tells settled;
    numbers = λ tells settled. had_numbers old new found at asked ran first end_last tells settled;
    takes_few = ran.moments;
    orphans = few;
    caused = ran.caused;
    completes = λ tells none tell settled whole fits. completes tells end none tell settled whole (good none fits);
  }

  pub serves : (end : RunEnd) → (IsAnswered old new found at u ran.handled × ReadsSo asked old.source new.source end) ⊎ StopsSo old new found at asked end
      → IsGoodIfNoneFailed old new end → Serves old new found end
  serves end so good = serves_by end (says end so) (leaves_few end so) good

  -- the numbers of vault files ran out
  pub serves_dry : (place : ℕ) → HasRunOut found new.main.holds new.spare.holds place wear.Vaults → Needs run old new wear.Vaults
      → IsGoodIfNoneFailed old new (worn wear.Vaults place) → Serves old new found (worn wear.Vaults place)
  serves_dry place out needs good = serves_by (worn wear.Vaults place) (out, needs) (λ e. absurd (cc e)) good
