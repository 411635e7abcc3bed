-- Main is as it was where nothing was to be kept of a command.
use Rattle.std.proofs.Common.{◌≡◌, ◌⊎◌, inl, inr, false, List, [], ◌++◌, None, Result, IsTrue, sym, ap, ◌∙◌, subst}
use Rattle.std.specs.Prelude.{⊤}
use Rattle.std.proofs.lemmas.List.{append_cancel_left}
use Rattle.grid_outside.specs.Ambient.{AmbientState}
use Rattle.grid_outside.specs.Disk.{DiskState}
use Rattle.grid_outside.specs.Files.{StoreState}
use Rattle.grid_outside.specs.Sink.{SinkState}
use Rattle.grid_outside.specs.Source.{SourceState}
use Rattle.grid_model.specs.Names.{Text}
use Rattle.grid_model.specs.Rows.{Cat}
use Rattle.grid_model.specs.Meanings.{Meaning, gives, waits}
use Rattle.grid_model.specs.Doing.{Course, Did}
use Rattle.grid_model.specs.Sessions.{State}
use Rattle.grid_model.specs.Runs.{Request}
use Rattle.grid_model.specs.declared.calls.Call.{Call}
use Rattle.grid_model.specs.declared.marks.Mark.{Mark}
use Rattle.grid_model.specs.declared.refusal.Failure.{Failure}
use Rattle.grid_model.proofs.MeaningLemmas.{waits_not_gives}
use Rattle.grid_journal.specs.Journal.{Journal}
use Rattle.grid_headline.specs.Worlds.{World}
use Rattle.run_laws.specs.Passes.{Seen}
use Rattle.chain_core.specs.Answers.{failure_in}
use Rattle.service_run.specs.Commands.{place_by}
use Rattle.service_run.specs.Steps.{IsStepDone, IsStill, StaysAway, WasNoted}
use Rattle.service_run.specs.declared.command.Command.{Command}
use Rattle.call_laws.specs.Amid.{IsAmid, world}
use Rattle.rule_run.specs.Asked.{IsAsked, asked_setting}
use Rattle.rule_run.specs.Finishing.{HasNothing}

-- ---- a call that took no mark

-- what waits for a mark does not come to an end without one
never_both : (m : Meaning Did) (w : _) (d : Did) → m ≡ waits w → m ≡ gives d → ⊥
never_both m w d waits_so gives_so =
    let both : ◌≡◌ {A = Meaning Did} (waits w) (gives d) = sym waits_so ∙ gives_so in
    waits_not_gives both

module _ {B : Type 0} (old new : World B) (kept : Cat) (rows : Journal) (x : Command) (call : Call) (undo : List Call) (y : Command) (after : Journal)
    (does : Course → Meaning Did) (ran : Result ⊤ Failure) (done : IsStepDone old new kept rows x call undo y after does ran) where
  no_marks : done.marks ≡ [] → done.did.marks ≡ []
  no_marks none =
      append_cancel_left x.marks done.did.marks []
      (sym done.did.taken ∙ done.marks_are ∙ ap (λ (ms : List Mark). x.marks ++ ms) none)

  not_noted : done.did.marks ≡ [] → WasNoted old new kept rows x call undo y after does done.marks → ⊥
  not_noted none noted =
      let its = done.did.did [] 0 false in
      let F : List Mark → Type 0 = λ ms. does (record {
        grid = (place_by rows.cat x).grid;
        marks = ms ++ [];
        taken = x.marks;
        begun = 0;
        passed = x.passed;
        stopped = false;
      }) ≡ gives (record {
        state = record { grid = (place_by after.cat y).grid; marks = []; taken = y.marks; begun = 0; passed = y.passed; stopped = its.0 };
        failure = failure_in ran;
      }) in
      never_both _ _ _ (noted.waits 0).0 (subst F none its.1)

  by_kept : done.did.marks ≡ [] → StaysAway old new kept rows x call undo y after done.marks ⊎ WasNoted old new kept rows x call undo y after does done.marks
      → StaysAway old new kept rows x call undo y after done.marks
  by_kept none (inl a) = a
  by_kept none (inr w) = absurd (not_noted none w)

  -- It called neither main nor the sink.
  pub stays_away : done.marks ≡ [] → StaysAway old new kept rows x call undo y after done.marks
  stays_away none = by_kept (no_marks none) done.is_kept

-- ---- the command

module _ {D A P K : Type 0} (disk : D → DiskState) (ambient : A → AmbientState) (plugin : P → StoreState) (sink : K → SinkState) (source : SourceState)
    (at : State) (request : Request) (before : Cat) (x : Command) (asked : IsAsked at request before x) (text_of : List Mark → Text)
    (from mid new : Seen D A P K) (y : Command) (rows : Journal) (taken : List Mark)
    (amid : IsAmid disk ambient plugin sink source (asked_setting at request before x text_of) from mid y rows taken)
    (idle : HasNothing rows y → new.outside.main ≡ mid.outside.main) where
  -- nothing is to be kept of a command that took no mark
  pub has_nothing : rows.staged ≡ [] → rows.cat.pending ≡ None → taken ≡ [] → HasNothing rows y
  has_nothing staged pending none = record {
    staged = staged;
    pending = pending;
    marks =
        ap (λ (z : Command). z.marks) amid.command
        ∙ ap (λ (z : Command). z.marks ++ taken) asked.begun
        ∙ none;
  }

  -- Where no call was made, or one that did not call main, and `finish`, whose clause `idle` is, found nothing to keep, main is as it was. It
  -- serves what `executes` of Handling wants.
  pub still_so : IsStill (disk from.outside.main) (disk mid.outside.main) → rows.staged ≡ [] → rows.cat.pending ≡ None → taken ≡ []
      → IsTrue (disk from.outside.main).tells → (disk new.outside.main).holds ≡ (disk from.outside.main).holds
  still_so still staged pending none told =
      ap (λ (m : D). (disk m).holds) (idle (has_nothing staged pending none)) ∙ still.looks.holds told

  -- the same behind one call, from rows in which no command is pending
  pub still_behind : (kept : Cat) (rows_old : Journal) (z : Command) (call : Call) (undo : List Call) (does : Course → Meaning Did) (ran : Result ⊤ Failure)
      (done : IsStepDone (world disk ambient plugin sink source from) (world disk ambient plugin sink source mid) kept rows_old z call undo y rows does ran)
      → rows_old.cat.pending ≡ None → rows.staged ≡ [] → done.marks ≡ [] → taken ≡ [] → IsTrue (disk from.outside.main).tells
      → (disk new.outside.main).holds ≡ (disk from.outside.main).holds
  still_behind kept rows_old z call undo does ran done free staged no_marks none told =
      let away =
      stays_away (world disk ambient plugin sink source from) (world disk ambient plugin sink source mid) kept rows_old z call undo y rows does ran done
      no_marks in
      still_so away.main staged (away.pending ∙ free) none told
