-- One recovery more: those before it are left.
use Rattle.std.proofs.Common.{◌≡◌, ◌≢◌, ℕ, true, List, [], ◌∷◌, ◌++◌, Option, Some, None, Result, refl, sym, ap, ◌∙◌, subst, append_assoc}
use Rattle.std.specs.Prelude.{⊤}
use Rattle.std.specs.List.{AllByRecursion}
use Rattle.grid_model.specs.Names.{Text}
use Rattle.grid_model.specs.Rows.{Cat}
use Rattle.grid_model.specs.RowGrids.{user_name}
use Rattle.grid_model.specs.Meanings.{mapped}
use Rattle.grid_model.specs.Doing.{back}
use Rattle.grid_model.specs.Reopening.{of_state, reopened}
use Rattle.grid_model.specs.declared.calls.Call.{Call}
use Rattle.grid_model.specs.declared.marks.Mark.{Mark}
use Rattle.grid_model.specs.declared.marks.Mark.TheVariants.{Stop}
use Rattle.grid_model.specs.declared.refusal.Failure.{Failure}
use Rattle.chain_core.specs.Answers.{failure_in}
use Rattle.chain_run.specs.Places.{Performs, course_at}
use Rattle.run_laws.specs.Steps.{IsToldOf}
use Rattle.run_laws.proofs.Lists.{all-map}
use Rattle.service_run.specs.Commands.{place_by}
use Rattle.service_run.specs.declared.command.Command.{Command}
use Rattle.call_laws.specs.OneCall.{passed_over}
use Rattle.undo_run.proofs.Completing.{performed, place_after}
use Rattle.undo_run.proofs.Undoings.{GoesTo}

-- marks that are told of are no `Stop`
none_stop : (known : ℕ → Type 0) (stores : ℕ) (marks : List Mark) → AllByRecursion (IsToldOf known stores) marks
    → AllByRecursion (λ (m : Mark). m ≢ Stop) marks
none_stop known stores marks told =
    all-map (IsToldOf known stores) (λ (m : Mark). m ≢ Stop) (λ m is same. subst (IsToldOf known stores) same is) marks told

module _ (found : Cat) (cs : List Call) (c : Call) (rows after : Cat) (y z : Command) (ran : Result ⊤ Failure)
    (did : Performs c ran (place_by rows y) (place_by after z)) (taken marks : List Mark) (marks_are : z.marks ≡ y.marks ++ marks)
    (known : ℕ → Type 0) (stores : ℕ) (told : AllByRecursion (IsToldOf known stores) marks) where
  goes_by : (fr : Option Failure) → failure_in ran ≡ fr → GoesTo found taken (cs ++ c ∷ []) (place_by rows y)
      → GoesTo found (taken ++ marks) cs (place_by after (passed_over z c fr))
  goes_by fr is goes later =
      ap (reopened found) (append_assoc taken marks later)
      ∙ goes (marks ++ later)
      ∙ performed cs c ran (place_by rows y) (place_by after z) did marks marks_are (none_stop known stores marks told) later 0 true
      ∙ ap (λ (o : Option Failure).
      mapped of_state (back (user_name rows y.user) cs (course_at (place_after c (place_by after z) o) later 0 true))) is
      ∙ with_user fr
    where
      with_user : (fr : Option Failure)
          → mapped of_state (back (user_name rows y.user) cs (course_at (place_after c (place_by after z) fr) later 0 true))
          ≡ mapped of_state (back (place_by after (passed_over z c fr)).user cs (course_at (place_by after (passed_over z c fr)) later 0 true))
      with_user None = ap (λ (u : Text). mapped of_state (back u cs (course_at (place_by after z) later 0 true))) (sym did.user)
      with_user (Some f) = ap (λ (u : Text). mapped of_state (back u cs (course_at (place_after c (place_by after z) (Some f)) later 0 true))) (sym did.user)

  -- where it was run, and passed over if it failed
  pub goes_next : GoesTo found taken (cs ++ c ∷ []) (place_by rows y) → GoesTo found (taken ++ marks) cs (place_by after (passed_over z c (failure_in ran)))
  goes_next = goes_by (failure_in ran) refl
