-- What is left where a call of a command is noted before its deed begins.
use Rattle.std.specs.Prelude.{◌≡◌, [], IsTrue}
use Rattle.grid_outside.specs.Disk.{DiskState}
use Rattle.grid_model.specs.Applying.{is_user}
use Rattle.grid_model.specs.RowGrids.{user_name}
use Rattle.grid_model.specs.Rows.{Cat}
use Rattle.grid_model.specs.declared.calls.Call.{Call}
use Rattle.grid_journal.specs.Journal.{Journal}
use Rattle.grid_deed.specs.Held.{IsHeld}
use Rattle.service_run.specs.declared.command.Command.{Command}
use Rattle.service_run.specs.Commands.{noted_in}
use Rattle.service_run.specs.Noting.{with_pending}

-- The rows are those before it with the command pending in the call, with no recoveries, main leads to them, and nothing is still to be told.
-- So the user is there with the name as before, and the stores are the same.
pub record IsNextNoted (main : DiskState) (before : Journal) (x : Command) (call : Call) (y : Command) (after : Journal) : Type 0 where
  pub kept : Cat
  pub held : IsHeld kept main after
  pub rows : after.cat ≡ with_pending before.cat (noted_in x call [])
  pub command : y ≡ record x { untold = [] }
  pub user : IsTrue (is_user after.cat y.user)
  pub name : user_name after.cat y.user ≡ user_name before.cat x.user
  pub stores : after.cat.stores ≡ before.cat.stores
