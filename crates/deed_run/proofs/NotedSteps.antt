-- How a deed ends that was done as the call that is noted of it.
use Rattle.std.proofs.Common.{◌≡◌, List, Result, Ok, subst}
use Rattle.std.specs.Prelude.{⊤}
use Rattle.grid_model.specs.Names.{Text}
use Rattle.grid_model.specs.RowGrids.{grid_of}
use Rattle.grid_model.specs.Deeds.{Deed, deed}
use Rattle.grid_model.specs.Doing.{take_mark}
use Rattle.grid_model.specs.Operations.Table.{Operation, row as row_of}
use Rattle.grid_model.specs.Rows.{Cat}
use Rattle.grid_model.specs.Working.{running}
use Rattle.grid_model.specs.declared.calls.Call.{Call}
use Rattle.grid_model.specs.declared.refusal.Failure.{Failure}
use Rattle.grid_journal.specs.Journal.{Journal}
use Rattle.grid_headline.specs.Worlds.{World}
use Rattle.service_run.specs.declared.command.Command.{Command}
use Rattle.service_run.specs.declared.ending.Ending.{Ending}
use Rattle.service_run.specs.Steps.{IsStep}
use Rattle.service_run.proofs.CallSteps.{step_doing}
use Rattle.deed_run.specs.Puts.{does_op}
use Rattle.deed_run.proofs.PutSteps.{does_deed}

-- it is the deed of the operation
pub step_noted_as : {B : Type 0} {old new : World B} {kept : Cat} {rows : Journal} {x : Command} {call : Call} {undo : List Call} {y : Command} {after : Journal} (user : Text) (op : Operation) (d : Deed) → row_of (grid_of rows.cat) user op ≡ Ok (deed d) → call ≡ running op
    → (result : Result (Result ⊤ Failure) Ending) → IsStep old new kept rows x call undo y after (λ s. take_mark call s d s.marks) result → IsStep old new kept rows x (running op) undo y after (does_op user op) result
step_noted_as {B} {old} {new} {kept} {rows} {x} {call} {undo} {y} {after} user op d row_is noted result step =
    let S : Call → Type 0 = λ c. IsStep old new kept rows x c undo y after (λ s. take_mark c s d s.marks) result in
    step_doing (does_op user op) (does_deed rows.cat user op d row_is) result (subst S noted step)
