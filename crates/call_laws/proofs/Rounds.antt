-- One call more: it was done, or refused, or cut short.
use Rattle.std.proofs.Common.{◌≡◌, ◌⊎◌, inl, inr, ℕ, ◌≤◌, List, [], ◌∷◌, ◌++◌, Option, Some, None}
use Rattle.std.proofs.Common.{Result, Ok, Err, IsTrue, length, refl, sym, ap, ◌∙◌, subst, append_assoc, arith}
use Rattle.std.specs.Prelude.{⊤}
use Rattle.std.proofs.lemmas.List.{append-nil}
use Rattle.grid_outside.specs.Ambient.{AmbientState}
use Rattle.grid_outside.specs.Device.{DeviceState, IsSettled}
use Rattle.grid_outside.specs.Disk.{DiskState}
use Rattle.grid_outside.specs.Files.{StoreState}
use Rattle.grid_outside.specs.Sink.{AddsPart, SinkState}
use Rattle.grid_outside.specs.Source.{SourceState}
use Rattle.grid_model.specs.Names.{Text}
use Rattle.grid_model.specs.Meanings.{Meaning}
use Rattle.grid_model.specs.Doing.{Course, Did}
use Rattle.grid_model.specs.Printing.{print_failure}
use Rattle.grid_model.specs.declared.calls.Call.{Call}
use Rattle.grid_model.specs.declared.marks.Mark.{Mark}
use Rattle.grid_model.specs.declared.refusal.Failure.{Failure}
use Rattle.grid_journal.specs.Journal.{Journal}
use Rattle.grid_headline.specs.Worlds.{World}
use Rattle.run_laws.specs.Passes.{CallsPass, Seen}
use Rattle.run_laws.specs.Steps.{Gave, IsToldOf}
use Rattle.run_laws.proofs.Causes.{caused-on, caused-then}
use Rattle.run_laws.proofs.Draws.{gave-then}
use Rattle.run_laws.proofs.Goings.{tells-after}
use Rattle.run_laws.proofs.Known.{told-less}
use Rattle.run_laws.proofs.Lists.{all-append, all-map}
use Rattle.service_run.specs.declared.command.Command.{Command}
use Rattle.service_run.specs.declared.ending.Ending.{Ending}
use Rattle.service_run.specs.Steps.{IsKnownBy, IsStep, IsStepDone, IsStill, StaysAway, WasNoted, lines_of}
use Rattle.call_laws.specs.Amid.{AreTaken, HoldsSo, IsAmid, IsCutShort, IsSafe, IsSetting, MayCall, Setting, world}
use Rattle.call_laws.specs.OneCall.{passed_over}
use Rattle.call_laws.proofs.Joined.{passes_then, went_of}
use Rattle.call_laws.proofs.Rows.{beside_marks, first_front}
use Rattle.call_laws.proofs.Safely.{lines_taken, main_told, part_told, plain_taken, safe_next, sink_told, told_all, whole_kept}
use Rattle.call_laws.proofs.Told.{adds_all, adds_more, lines-append}

-- nothing is pending on a device that was not called
still_settled : {C : Type 0} (a b : DeviceState C) → IsTrue a.tells → IsStill a b → IsSettled a → IsSettled b
still_settled a b told still settled t image late left =
    settled t image (omega (arith, late, still.looks.last)) ((still.looks.left t image).0 left) ∙ sym (still.looks.holds told)

module _ {D A P K : Type 0} (disk : D → DiskState) (ambient : A → AmbientState) (plugin : P → StoreState) (sink : K → SinkState) (source : SourceState)
    {F : Type 0} (s : Setting F) (from : Seen D A P K) where
  -- the text of the first marks is told
  shown_amid : (at : Seen D A P K) (untold : Text) (rows : Journal) (taken : List Mark)
      → HoldsSo disk ambient plugin sink source s from at untold rows taken → IsTrue (sink from.sink).tells
      → AddsPart (s.text_of taken) (sink from.sink).holds (sink at.sink).holds
  shown_amid at untold rows taken h told =
      subst (λ (t : Text). AddsPart t (sink from.sink).holds (sink at.sink).holds)
      (sym (lines_taken disk ambient plugin sink source s from at untold rows taken h))
      (adds_more (s.text_of h.told) (lines_of s.start.number h.fresh) (sink from.sink).holds (sink at.sink).holds
      (adds_all (s.text_of h.told) (sink from.sink).holds (sink at.sink).holds (h.shown told)))

  -- calls may end where they have come to
  pub short_amid : (at : Seen D A P K) (y : Command) (rows : Journal) (taken : List Mark)
      → IsAmid disk ambient plugin sink source s from at y rows taken → IsCutShort disk ambient plugin sink source s from at taken
  short_amid at y rows taken amid =
      record { marks = amid.marks; shown = shown_amid at y.untold rows taken amid.holds; safe = amid.safe }

  module _ (is : IsSetting s) (mid new : Seen D A P K) (c : Call) (undo : List Call) (does : Course → Meaning Did) (y : Command) (rows : Journal)
      (taken : List Mark) (amid : IsAmid disk ambient plugin sink source s from mid y rows taken) (may : MayCall s rows.cat y taken does c undo)
      (main_last : (disk mid.outside.main).last ≤ mid.outside.moments) where
    abbrev at_old : World P
    at_old = world disk ambient plugin sink source from

    abbrev at_mid : World P
    at_mid = world disk ambient plugin sink source mid

    abbrev at_new : World P
    at_new = world disk ambient plugin sink source new

    abbrev holds : HoldsSo disk ambient plugin sink source s from mid y.untold rows taken
    holds = amid.holds

    abbrev told_main : IsTrue (disk from.outside.main).tells → IsTrue (disk mid.outside.main).tells
    told_main = main_told disk ambient plugin sink source s from is mid new c undo does y rows taken amid may main_last

    abbrev told_sink : IsTrue (sink from.sink).tells → IsTrue (sink mid.sink).tells
    told_sink = sink_told disk ambient plugin sink source s from is mid new c undo does y rows taken amid may main_last

    pub number_is : y.number ≡ s.start.number
    number_is = ap (λ (x : Command). x.number) amid.command

    -- files that were known are known by the rows now
    known_now : IsTrue (disk from.outside.main).tells → (slot : ℕ) → IsKnownBy at_old s.found slot → IsKnownBy at_mid rows.cat slot
    known_now told slot known = record {
      settled = holds.settled told known.settled;
      whole = amid.whole_now known.whole told known.settled;
      there = tells-after at_old at_mid (went_of disk plugin sink ⊥ ⊥ ambient source from mid amid.passes) slot known.there;
    }

    -- marks that were taken are so, where no mark is told of what was called since
    pub taken_still : (failed sink_failed : Type 0) → CallsPass disk plugin sink failed sink_failed mid new
        → (IsTrue at_new.ambient.tells → Gave [] at_mid.ambient at_new.ambient) → AreTaken disk ambient plugin sink source s from new taken
    taken_still failed sink_failed passes asked = record {
      told_of = amid.marks.told_of;
      caused = caused-on at_old at_mid at_new taken (went_of disk plugin sink failed sink_failed ambient source mid new passes) amid.marks.caused;
      gave = λ told. subst (λ (ms : List Mark). Gave ms (ambient from.outside.ambient) (ambient new.outside.ambient)) (append-nil taken)
          (gave-then taken [] (ambient from.outside.ambient) (ambient mid.outside.ambient) (ambient new.outside.ambient) amid.marks.gave asked told);
    }

    -- ---- it was done, or refused

    module _ (z : Command) (after : Journal) (ran : Result ⊤ Failure) (passes : CallsPass disk plugin sink ⊥ ⊥ mid new)
        (step : IsStep at_mid at_new holds.cat rows y c undo z after does (Ok ran)) where
      abbrev done : IsStepDone at_mid at_new holds.cat rows y c undo z after does ran
      done = step.ends

      abbrev marks : List Mark
      marks = done.marks

      holds_by : StaysAway at_mid at_new holds.cat rows y c undo z after marks
          ⊎ WasNoted at_mid at_new holds.cat rows y c undo z after does marks
          → HoldsSo disk ambient plugin sink source s from new z.untold after (taken ++ marks)
      holds_by (inl a) = record {
        told = holds.told;
        fresh = holds.fresh ++ marks;
        taken_are = ap (λ (ms : List Mark). ms ++ marks) holds.taken_are ∙ append_assoc holds.told holds.fresh marks;
        untold_is = a.untold ∙ (λ i. holds.untold_is i ++ lines_of (number_is i) marks) ∙ sym (lines-append s.start.number holds.fresh marks);
        cat = holds.cat;
        on_main = holds.on_main;
        held = a.held;
        numbers = a.numbers ∙ holds.numbers;
        plain = holds.plain;
        shown = λ told. a.sink.looks.holds (told_sink told) ∙ holds.shown told;
        settled = λ told settled. still_settled (disk mid.outside.main) (disk new.outside.main) (told_main told) a.main (holds.settled told settled);
        sink_settled = λ told settled. still_settled (sink mid.sink) (sink new.sink) (told_sink told) a.sink (holds.sink_settled told settled);
      }
      holds_by (inr w) = record {
        told = taken;
        fresh = marks;
        taken_are = refl;
        untold_is = w.untold ∙ ap (λ (n : ℕ). lines_of n marks) number_is;
        cat = w.cat;
        on_main = may.on_noted w.cat w.noted w.waits;
        held = w.held;
        numbers = w.numbers;
        plain = plain_taken disk ambient plugin sink source s from mid y.untold rows taken holds;
        shown = λ told. w.sink (told_sink told) ∙ told_all disk ambient plugin sink source s from mid y.untold rows taken holds told;
        settled = λ told settled. w.settled (told_main told);
        sink_settled = λ told settled. w.sink_settled (told_sink told) (holds.sink_settled told settled);
      }

      -- the command has the marks, and nothing else but what is told and passed over is other
      abbrev IsCommand : Command → Type 0
      IsCommand x = x ≡ record s.start { marks = s.start.marks ++ (taken ++ marks); passed = x.passed; untold = x.untold }

      run_is : z.run ≡ s.start.run
      run_is = ap (λ (x : Command). x.run) done.rest ∙ ap (λ (x : Command). x.run) amid.command

      user_is : z.user ≡ s.start.user
      user_is = ap (λ (x : Command). x.user) done.rest ∙ ap (λ (x : Command). x.user) amid.command

      line_is : z.line ≡ s.start.line
      line_is = ap (λ (x : Command). x.line) done.rest ∙ ap (λ (x : Command). x.line) amid.command

      marks_are : z.marks ≡ s.start.marks ++ (taken ++ marks)
      marks_are = done.marks_are ∙ ap (λ (x : Command). x.marks ++ marks) amid.command ∙ append_assoc s.start.marks taken marks

      command_by : (fr : Option Failure) → IsCommand (passed_over z c fr)
      command_by None = λ i. record {
        run = run_is i;
        number = (ap (λ (x : Command). x.number) done.rest ∙ number_is) i;
        user = user_is i;
        line = line_is i;
        marks = marks_are i;
        passed = z.passed;
        untold = z.untold;
      }
      command_by (Some f) = λ i. record {
        run = run_is i;
        number = (ap (λ (x : Command). x.number) done.rest ∙ number_is) i;
        user = user_is i;
        line = line_is i;
        marks = marks_are i;
        passed = z.passed ++ record { call = c; failure = print_failure f } ∷ [];
        untold = z.untold;
      }

      marks_next : AreTaken disk ambient plugin sink source s from new (taken ++ marks)
      marks_next = record {
        told_of = λ told.
            all-append (IsToldOf (IsKnownBy at_old s.found) (length from.outside.stores.items)) taken marks (amid.marks.told_of told)
            (all-map (IsToldOf (IsKnownBy at_mid rows.cat) (length mid.outside.stores.items))
            (IsToldOf (IsKnownBy at_old s.found) (length from.outside.stores.items))
            (λ m told_now. subst (λ (n : ℕ). IsToldOf (IsKnownBy at_old s.found) n m) amid.passes.frame.stores.count
            (told-less (IsKnownBy at_mid rows.cat) (IsKnownBy at_old s.found) (known_now told) (length mid.outside.stores.items) m told_now)) marks
            done.told_of);
        caused = caused-then at_old at_mid at_new taken marks amid.passes.frame.stores.count amid.marks.caused done.caused;
        gave = gave-then taken marks (ambient from.outside.ambient) (ambient mid.outside.ambient) (ambient new.outside.ambient) amid.marks.gave done.gave;
      }

      safe_now : IsSafe disk ambient plugin sink source s from new (taken ++ marks)
      safe_now =
          let safe = safe_next disk ambient plugin sink source s from is mid new c undo does y rows taken amid may main_last z after (Ok ran) ⊥ ⊥ passes step in
          record { main = safe.main; whole = safe.whole; images = λ f first. safe.images f (first_front taken marks (s.marks_of f) first) }

      amid_as : (x : Command) → IsCommand x → HoldsSo disk ambient plugin sink source s from new x.untold after (taken ++ marks)
          → IsAmid disk ambient plugin sink source s from new x after (taken ++ marks)
      amid_as x command holds_new = record {
        command = command;
        beside = beside_marks s.found rows.cat after.cat taken marks amid.beside done.beside;
        holds = holds_new;
        marks = marks_next;
        whole_now = λ were told settled t late.
            done.whole (whole_kept disk ambient plugin sink source s from is mid new c undo does y rows taken amid may main_last were told settled)
            (amid.whole_now were told settled) (told_main told) (holds.settled told settled) t late;
        safe = safe_now;
        passes = passes_then disk plugin sink ⊥ ⊥ from mid new amid.passes passes;
      }

      -- and passed over, if it was a recovery
      pub amid_next : (fr : Option Failure) → IsAmid disk ambient plugin sink source s from new (passed_over z c fr) after (taken ++ step.ends.marks)
      amid_next None = amid_as z (command_by None) (holds_by done.is_kept)
      amid_next (Some f) = amid_as (passed_over z c (Some f)) (command_by (Some f)) (holds_by done.is_kept)

    -- ---- it was cut short

    pub cut_next : (z : Command) (after : Journal) (e : Ending) (failed sink_failed : Type 0) → CallsPass disk plugin sink failed sink_failed mid new
        → IsStep at_mid at_new holds.cat rows y c undo z after does (Err e)
        → IsCutShort disk ambient plugin sink source s from new taken
    cut_next z after e failed sink_failed passes step = record {
      marks = taken_still failed sink_failed passes step.asked;
      shown = λ told.
          part_told disk ambient plugin sink source s from is mid new c undo does y rows taken amid may main_last told (sink new.sink).holds
          (step.shown (told_sink told));
      safe = safe_next disk ambient plugin sink source s from is mid new c undo does y rows taken amid may main_last z after (Err e) failed sink_failed passes
          step;
    }
