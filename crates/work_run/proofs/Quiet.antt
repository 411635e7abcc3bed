-- Where an operation took no mark and left the grid as it was, nothing is to be kept of it.
use Rattle.std.proofs.Common.{◌≡◌, inl, inr, false, List, [], ◌++◌, Result, sym, ap, ◌∙◌}
use Rattle.std.specs.Prelude.{⊤, ◌⊎◌}
use Rattle.std.proofs.lemmas.List.{append_cancel_left, append-nil}
use Rattle.grid_model.specs.Rows.{Cat}
use Rattle.grid_model.specs.Doing.{Course, Did}
use Rattle.grid_model.specs.Meanings.{Meaning, gives}
use Rattle.grid_model.specs.declared.calls.Call.{Call}
use Rattle.grid_model.specs.declared.marks.Mark.{Mark}
use Rattle.grid_model.specs.declared.refusal.Failure.{Failure}
use Rattle.grid_model.proofs.MeaningLemmas.{gives_not_waits}
use Rattle.grid_journal.specs.Journal.{Journal}
use Rattle.grid_headline.specs.Worlds.{World}
use Rattle.chain_core.specs.Answers.{failure_in}
use Rattle.chain_run.specs.Places.{course_at}
use Rattle.service_run.specs.Commands.{place_by}
use Rattle.service_run.specs.Steps.{IsStepDone, IsStill, StaysAway, WasNoted}
use Rattle.service_run.specs.declared.command.Command.{Command}

module _ {B : Type 0} (old new : World B) (kept : Cat) (rows : Journal) (x : Command) (call : Call) (undo : List Call) (y : Command) (after : Journal)
    (does : Course → Meaning Did) (ran : Result ⊤ Failure) (done : IsStepDone old new kept rows x call undo y after does ran) (none : y.marks ≡ x.marks) where
  pub no_marks : done.did.marks ≡ []
  no_marks = append_cancel_left x.marks done.did.marks [] (sym done.did.taken ∙ none ∙ sym (append-nil x.marks))

  -- it does not wait there
  not_noted : WasNoted old new kept rows x call undo y after does done.marks → ⊥
  not_noted w =
      let did = done.did.did [] 0 false in
      let there : does (course_at (place_by rows.cat x) [] 0 false)
      ≡ gives (record { state = course_at (place_by after.cat y) [] 0 did.0; failure = failure_in ran })
      = ap (λ (ms : List Mark). does (course_at (place_by rows.cat x) (ms ++ []) 0 false)) (sym no_marks) ∙ did.1 in
      gives_not_waits (sym there ∙ (w.waits 0).0)

  by_kept : StaysAway old new kept rows x call undo y after done.marks ⊎ WasNoted old new kept rows x call undo y after does done.marks
      → (after.cat.pending ≡ rows.cat.pending) × IsStill old.main new.main
  by_kept (inl a) = (a.pending, a.main)
  by_kept (inr w) = absurd (not_noted w)

  -- main was not called, and no other command is pending in memory
  pub was_still : (after.cat.pending ≡ rows.cat.pending) × IsStill old.main new.main
  was_still = by_kept done.is_kept
