-- A call that does what another one does where the command is.
use Rattle.std.proofs.Common.{◌≡◌, ◌⊎◌, inl, inr, Bool, List, [], ◌++◌, Result, Ok, Err, refl, ◌∙◌}
use Rattle.std.specs.Prelude.{⊤}
use Rattle.grid_model.specs.Names.{Text}
use Rattle.grid_model.specs.Rows.{Cat}
use Rattle.grid_model.specs.RowGrids.{grid_of}
use Rattle.grid_model.specs.Meanings.{Meaning}
use Rattle.grid_model.specs.Doing.{Course, Did}
use Rattle.grid_model.specs.declared.calls.Call.{Call}
use Rattle.grid_model.specs.declared.marks.Mark.{Mark}
use Rattle.grid_model.specs.declared.refusal.Failure.{Failure}
use Rattle.grid_journal.specs.Journal.{Journal}
use Rattle.chain_run.specs.Places.{course_at}
use Rattle.grid_headline.specs.Worlds.{World}
use Rattle.service_run.specs.declared.command.Command.{Command}
use Rattle.service_run.specs.declared.ending.Ending.{Ending}
use Rattle.service_run.specs.Commands.{WaitsAt, place_by}
use Rattle.service_run.specs.Steps.{IsStep, OneOfStep, StaysAway, StepEnds, WasNoted, in_call, unseen}

module _ {B : Type 0} (old new : World B) (kept : Cat) (rows : Journal) (x : Command) (call : Call) (undo : List Call) (y : Command) (after : Journal) (one other : Course → Meaning Did) (same : (s : Course) → s.grid ≡ grid_of rows.cat → other s ≡ one s) where
  waits_as : WaitsAt one (place_by rows.cat x) call → WaitsAt other (place_by rows.cat x) call
  waits_as waits begun =
      let at = λ (stopped : Bool). same (course_at (place_by rows.cat x) [] begun stopped) refl in
      (at _ ∙ (waits begun).0, at _ ∙ (waits begun).1)

  image_as : (shown main sink : Text) → OneOfStep one kept rows.cat x call undo shown main sink → OneOfStep other kept rows.cat x call undo shown main sink
  image_as shown main sink (unseen stands still) = unseen stands still
  image_as shown main sink (in_call c noted waits stands part) = in_call c noted (waits_as waits) stands part

  kept_as : (marks : List Mark) → StaysAway old new kept rows x call undo y after marks ⊎ WasNoted old new kept rows x call undo y after one marks → StaysAway old new kept rows x call undo y after marks ⊎ WasNoted old new kept rows x call undo y after other marks
  kept_as marks (inl away) = inl away
  kept_as marks (inr noted) = inr (record {
    cat = noted.cat;
    noted = noted.noted;
    waits = waits_as noted.waits;
    pending = noted.pending;
    numbers = noted.numbers;
    held = noted.held;
    settled = noted.settled;
    sink = noted.sink;
    sink_settled = noted.sink_settled;
    untold = noted.untold;
  })

  ends_as : (result : Result (Result ⊤ Failure) Ending) → StepEnds old new kept rows x call undo y after one result → StepEnds old new kept rows x call undo y after other result
  ends_as (Ok ran) e = record {
    did = record {
      user = e.did.user;
      marks = e.did.marks;
      taken = e.did.taken;
      did = λ later begun stopped.
          let d = e.did.did later begun stopped in
          (d.0, same (course_at (place_by rows.cat x) (e.did.marks ++ later) begun stopped) refl ∙ d.1);
    };
    beside = e.beside;
    marks = e.marks;
    marks_are = e.marks_are;
    rest = e.rest;
    spelled = e.spelled;
    is_kept = kept_as e.marks e.is_kept;
    told_of = e.told_of;
    caused = e.caused;
    gave = e.gave;
    whole = e.whole;
  }
  ends_as (Err e) worn = worn

  pub step_as : (result : Result (Result ⊤ Failure) Ending) → IsStep old new kept rows x call undo y after one result → IsStep old new kept rows x call undo y after other result
  step_as result step = record {
    ends = ends_as result step.ends;
    asked = step.asked;
    shown = step.shown;
    main = step.main;
    images = λ told sink_told settled sink_settled t main sink late left sink_left. image_as old.sink.holds main sink (step.images told sink_told settled sink_settled t main sink late left sink_left);
    whole = step.whole;
  }
