-- One recovery is one step of the undoing of a list.
use Rattle.std.proofs.Common.{◌≡◌, ℕ, Bool, true, false, List, [], ◌∷◌, ◌++◌, length, Option, Some, None, refl, sym, ◌∙◌, ap}
use Rattle.grid_model.specs.Names.{Text}
use Rattle.grid_model.specs.Meanings.{Meaning, gives}
use Rattle.grid_model.specs.Doing.{Course, do_call, undo_within, back, after_undoing}
use Rattle.grid_model.specs.declared.calls.Call.{Call}
use Rattle.grid_model.specs.declared.refusal.Failure.{Failure}
use Rattle.grid_model.specs.declared.refusal.Failure.TheVariants.{Refused, Code, NoRule, Depth, Spent, LongText, Stopped}
use Rattle.grid_model.proofs.StoppingCalls.{call_keeps, goes_on}
use Rattle.grid_model.proofs.RecoveryLemmas.{back_after, back-append}
use Rattle.chain_core.specs.Answers.{noted}
use Rattle.chain_core.specs.Moves.{was_stopped}

-- what a recovery that was run leaves to be undone, where these stand before it, and it was stopped or not
abbrev pub left_over : Bool → List Call → Call → List Call
left_over true us c = us ++ c ∷ []
left_over false us c = us

pub undone_one : (user : Text) (us : List Call) (c : Call) (y : Option Failure) (s t : Course) → do_call user c s ≡ gives (record { state = t; failure = y })
    → back user (us ++ c ∷ []) s ≡ back user (left_over (was_stopped y) us c) (noted c y t)
undone_one user us c y s t e =
    back-append user us (c ∷ []) s
    ∙ ap (λ m. back_after user us (goes_on (length s.marks) user c m)) e
    ∙ by_failure y e
  where
    again : ℕ → Meaning Course
    again n = back_after user us (undo_within n user c t)

    by_failure : (y : Option Failure) → do_call user c s ≡ gives (record { state = t; failure = y })
        → back_after user us (after_undoing c (undo_within (length s.marks) user c) t y) ≡ back user (left_over (was_stopped y) us c) (noted c y t)
    by_failure None e = refl
    by_failure (Some Stopped) e = ap again (sym ((call_keeps user c s (record { state = t; failure = Some Stopped }) e).fewer refl)) ∙ sym (back-append user us (c ∷ []) t)
    by_failure (Some (Refused r)) e = refl
    by_failure (Some (Code z)) e = refl
    by_failure (Some NoRule) e = refl
    by_failure (Some Depth) e = refl
    by_failure (Some Spent) e = refl
    by_failure (Some LongText) e = refl
