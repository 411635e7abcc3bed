-- What a call did as a doer of calls has it: performed, or run as a recovery.
use Rattle.std.proofs.Common.{◌≡◌, ◌≢◌, ℕ, Bool, false, List, [], ◌++◌, length, Option, Some, None, Result, Ok, Err, refl, sym, ap, ◌∙◌, subst}
use Rattle.std.specs.Prelude.{⊤, IfOk}
use Rattle.std.specs.List.{AllByRecursion}
use Rattle.std.proofs.lemmas.List.{append_cancel_left}
use Rattle.grid_model.specs.Rows.{Cat}
use Rattle.grid_model.specs.RowGrids.{user_name}
use Rattle.grid_model.specs.Doing.{do_call}
use Rattle.grid_model.specs.declared.calls.Call.{Call}
use Rattle.grid_model.specs.declared.marks.Mark.{Mark}
use Rattle.grid_model.specs.declared.marks.Mark.TheVariants.{Stop}
use Rattle.grid_model.specs.declared.refusal.Failure.{Failure}
use Rattle.grid_journal.specs.Journal.{Journal}
use Rattle.grid_headline.specs.Worlds.{World}
use Rattle.chain_core.specs.Answers.{Undoes, failure_in}
use Rattle.chain_core.specs.Moves.{was_stopped}
use Rattle.chain_run.specs.Places.{Performs, Place, Recovers, course_at}
use Rattle.run_laws.specs.Steps.{IsToldOf}
use Rattle.run_laws.proofs.Lists.{all-map}
use Rattle.service_run.specs.Commands.{place_by}
use Rattle.service_run.specs.Steps.{IsKnownBy, IsStep, IsStepDone}
use Rattle.service_run.specs.declared.command.Command.{Command}
use Rattle.service_run.specs.declared.ending.Ending.{Ending}
use Rattle.call_laws.specs.OneCall.{RoundEnds, RunsOne, passed_over}
use Rattle.undo_run.proofs.Completing.{noted_undone, place_after, undone_place, unstopped}

-- a mark that is told of is no `Stop`
no_stop : (known : ℕ → Type 0) (stores : ℕ) (m : Mark) → IsToldOf known stores m → m ≢ Stop
no_stop known stores m told same = subst (IsToldOf known stores) same told

-- where it was passed over, the place is that of the command that has it so
placed_over : (rows : Cat) (z : Command) (c : Call) (o : Option Failure) → place_after c (place_by rows z) o ≡ place_by rows (passed_over z c o)
placed_over rows z c None = refl
placed_over rows z c (Some f) = refl

module _ {B : Type 0} (old new : World B) (kept : Cat) (rows : Journal) (x : Command) (call : Call) (undo : List Call) (after : Journal) where
  -- ---- performed

  pub performs_so : (y : Command) (result : Result (Result ⊤ Failure) Ending)
      → IsStep old new kept rows x call undo y after (do_call (user_name rows.cat x.user) call) result
      → IfOk result (λ ran. Performs call ran (place_by rows.cat x) (place_by after.cat y))
  performs_so y (Ok ran) step = step.ends.did
  performs_so y (Err e) step = tt

  -- ---- run as a recovery

  module _ (z : Command) (ran : Result ⊤ Failure)
      (step : IsStep old new kept rows x call undo z after (do_call (user_name rows.cat x.user) call) (Ok ran)) where
    abbrev done : IsStepDone old new kept rows x call undo z after (do_call (user_name rows.cat x.user) call) ran
    done = step.ends

    abbrev from : Place
    from = place_by rows.cat x

    abbrev mid : Place
    mid = place_by after.cat z

    abbrev to : Place
    to = place_by after.cat (passed_over z call (failure_in ran))

    -- the marks of the place are those of the command
    same_marks : done.did.marks ≡ done.marks
    same_marks = append_cancel_left x.marks done.did.marks done.marks (sym done.did.taken ∙ done.marks_are)

    none_stop : AllByRecursion (λ (m : Mark). m ≢ Stop) done.did.marks
    none_stop =
        subst (AllByRecursion (λ (m : Mark). m ≢ Stop)) (sym same_marks)
        (all-map (IsToldOf (IsKnownBy old rows.cat) (length old.stores)) (λ (m : Mark). m ≢ Stop) (no_stop (IsKnownBy old rows.cat) (length old.stores))
        done.marks done.told_of)

    on : was_stopped (failure_in ran) ≡ false
    on =
        let did = done.did.did [] 0 false in
        unstopped from.user call (course_at from (done.did.marks ++ []) 0 false) (course_at mid [] 0 did.0) (failure_in ran) did.1 done.did.marks refl none_stop

    undoes : (later : List Mark) (begun : ℕ) (stopped : Bool)
        → (left : Bool) × Undoes from.user call (failure_in ran) (course_at from (done.did.marks ++ later) begun stopped) (course_at to later begun left)
    undoes later begun stopped =
        let did = done.did.did later begun stopped in (
          did.0,
          record {
            state = course_at mid later begun did.0;
            done = did.1;
            left = ap (λ (p : Place). course_at p later begun did.0) (sym (placed_over after.cat z call (failure_in ran)))
                ∙ sym (undone_place call mid later begun did.0 (failure_in ran))
                ∙ sym (noted_undone call (course_at mid later begun did.0) (failure_in ran) on);
          },
        )

    to_user : (o : Option Failure) → (place_by after.cat (passed_over z call o)).user ≡ mid.user
    to_user None = refl
    to_user (Some f) = refl

    to_taken : (o : Option Failure) → (place_by after.cat (passed_over z call o)).taken ≡ mid.taken
    to_taken None = refl
    to_taken (Some f) = refl

    recovers : Recovers call (failure_in ran) from to
    recovers = record {
      brings = record {
        user = to_user (failure_in ran) ∙ done.did.user;
        marks = done.did.marks;
        taken = to_taken (failure_in ran) ∙ done.did.taken;
        did = undoes;
      };
      unstopped = on;
    }

  recovers_one : (y : Command) (failure : Option Failure) → (r : RunsOne old new kept rows x call undo after y) → failure ≡ failure_in r.ran
      → Recovers call failure (place_by rows.cat x) (place_by after.cat y)
  recovers_one y failure r is =
      let R : Command → Type 0 = λ w. Recovers call failure (place_by rows.cat x) (place_by after.cat w) in
      let S : Option Failure → Type 0 = λ o. Recovers call o (place_by rows.cat x) (place_by after.cat (passed_over r.left call (failure_in r.ran))) in
      subst R (sym r.over) (subst S (sym is) (recovers r.left r.ran r.step))

  pub recovers_so : (y : Command) (result : Result (Option Failure) Ending) → RoundEnds old new kept rows x call undo after result y
      → IfOk result (λ failure. Recovers call failure (place_by rows.cat x) (place_by after.cat y))
  recovers_so y (Ok failure) runs = recovers_one y failure runs.0 runs.1
  recovers_so y (Err e) cut = tt
