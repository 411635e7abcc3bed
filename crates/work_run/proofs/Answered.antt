-- A step that was done, by how its answer was matched.
use Rattle.std.proofs.Common.{◌≡◌, List, Result, Ok, subst}
use Rattle.std.specs.Prelude.{⊤}
use Rattle.grid_model.specs.Rows.{Cat}
use Rattle.grid_model.specs.Meanings.{Meaning}
use Rattle.grid_model.specs.Doing.{Course, Did}
use Rattle.grid_model.specs.declared.calls.Call.{Call}
use Rattle.grid_model.specs.declared.refusal.Failure.{Failure}
use Rattle.grid_journal.specs.Journal.{Journal}
use Rattle.grid_headline.specs.Worlds.{World}
use Rattle.service_run.specs.declared.command.Command.{Command}
use Rattle.service_run.specs.Steps.{IsStep}

-- how it ran is said in another way
pub step_as : {B : Type 0} {old new : World B} {kept : Cat} {rows : Journal} {x : Command} {call : Call} {undo : List Call} {y : Command} {after : Journal}
    {does : Course → Meaning Did} (ran other : Result ⊤ Failure) → ran ≡ other → IsStep old new kept rows x call undo y after does (Ok ran)
    → IsStep old new kept rows x call undo y after does (Ok other)
step_as {B} {old} {new} {kept} {rows} {x} {call} {undo} {y} {after} {does} ran other is step =
    subst (λ (r : Result ⊤ Failure). IsStep old new kept rows x call undo y after does (Ok r)) is step
