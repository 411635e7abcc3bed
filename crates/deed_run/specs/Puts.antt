-- An operation as a call of a command.
use Rattle.std.specs.Prelude.{List, IsTrue}
use Rattle.grid_model.specs.Deltas.{all_fit, call as call_parts}
use Rattle.grid_model.specs.Meanings.{Meaning}
use Rattle.grid_model.specs.Names.{Text}
use Rattle.grid_model.specs.Doing.{Course, Did, do_operation}
use Rattle.grid_model.specs.Operations.Table.{Operation}
use Rattle.grid_model.specs.Working.{running}
use Rattle.grid_model.specs.declared.calls.Call.{Call}
use Rattle.grid_model.specs.declared.deltas.Delta.TheVariants as delta
use Rattle.grid_journal.specs.Journal.{can_be_kept}
use Rattle.service_run.specs.Commands.{noted_in}
use Rattle.service_run.specs.declared.command.Command.{Command}

-- what an operation of this user does, which runs as the call that is noted of it
abbrev pub does_op : Text → Operation → Course → Meaning Did
does_op user op = do_operation (running op) user op

-- The command may be noted in each call that may be kept, where a stop would have these recoveries done.
abbrev pub MayBeNoted : Command → List Call → Type 0
MayBeNoted x undo = (call : Call) → IsTrue (all_fit (call_parts call)) → IsTrue (can_be_kept (delta.Pending (noted_in x call undo)))
