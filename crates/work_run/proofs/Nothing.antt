-- A request that calls no rules: what is to be kept of it.
use Rattle.std.proofs.Common.{◌≡◌, List, [], Result, IsTrue, sym, ap, ◌∙◌}
use Rattle.std.specs.Prelude.{⊤}
use Rattle.grid_outside.specs.Disk.{DiskState}
use Rattle.grid_model.specs.Rows.{Cat}
use Rattle.grid_model.specs.RowGrids.{grid_of}
use Rattle.grid_model.specs.Doing.{Course, Did}
use Rattle.grid_model.specs.Meanings.{Meaning}
use Rattle.grid_model.specs.Runs.{Request}
use Rattle.grid_model.specs.Sessions.{State}
use Rattle.grid_model.specs.declared.calls.Call.{Call}
use Rattle.grid_model.specs.declared.refusal.Failure.{Failure}
use Rattle.grid_journal.specs.Journal.{Journal}
use Rattle.grid_headline.specs.Worlds.{World}
use Rattle.rule_run.specs.Finishing.{HasNothing}
use Rattle.service_run.specs.Steps.{IsStepDone}
use Rattle.service_run.specs.declared.command.Command.{Command}
use Rattle.work_run.specs.Behind.{BeginsWithNothing, LeavesNothing}
use Rattle.work_run.proofs.Quiet.{was_still}

-- where nothing was called there is what there was
pub same_nothing : (rows : Journal) (x : Command) (after : Journal) (y : Command) → after ≡ rows → y ≡ x → HasNothing rows x → HasNothing after y
same_nothing rows x after y same same_command nothing = record {
  staged = ap (λ (j : Journal). j.staged) same ∙ nothing.staged;
  pending = ap (λ (j : Journal). j.cat.pending) same ∙ nothing.pending;
  marks = ap (λ (z : Command). z.marks) same_command ∙ nothing.marks;
}

-- where there was nothing to be kept of it so far, and main has what it had
module _ (at : State) (request : Request) (before : Cat) (rows : Journal) (x : Command) (first : DiskState) where
  -- nothing was called
  pub leaves_still : (now : DiskState) → BeginsWithNothing at request before rows x first now → LeavesNothing at request before rows x first now
  leaves_still now begins calls none grid = let its = begins calls in (its.0, its.2)

  -- a call took no mark and left the grid as it was
  pub leaves_call : {B : Type 0} (old new : World B) (kept : Cat) (call : Call) (undo : List Call) (y : Command) (after : Journal)
      (does : Course → Meaning Did) (ran : Result ⊤ Failure) → IsStepDone old new kept rows x call undo y after does ran
      → (y.marks ≡ x.marks → grid_of after.cat ≡ grid_of rows.cat → after.staged ≡ rows.staged)
      → BeginsWithNothing at request before rows x first old.main → (IsTrue first.tells → IsTrue old.main.tells)
      → LeavesNothing at request before after y first new.main
  leaves_call old new kept call undo y after does ran done quiet begins tells calls none grid =
      let its = begins calls in
      let same = none ∙ sym its.0.marks in
      let still = was_still old new kept rows x call undo y after does ran done same in (
        record {
          staged = quiet same (grid ∙ sym (ap grid_of its.1)) ∙ its.0.staged;
          pending = still.0 ∙ its.0.pending;
          marks = none;
        },
        λ told. still.1.looks.holds (tells told) ∙ its.2 told,
      )

  -- a mark was taken
  pub leaves_marked : (after : Journal) (y : Command) (now : DiskState) → (y.marks ≡ [] → ⊥) → LeavesNothing at request before after y first now
  leaves_marked after y now some calls none grid = absurd (some none)
