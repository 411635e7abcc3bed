-- What calls of a command leave for those behind them.
use Rattle.std.specs.Prelude.{[], IsTrue}
use Rattle.grid_outside.specs.Disk.{DiskState}
use Rattle.grid_model.specs.Applying.{is_user}
use Rattle.grid_model.specs.Rows.{Cat}
use Rattle.grid_journal.specs.Journal.{Journal}
use Rattle.grid_deed.specs.Held.{IsHeld}
use Rattle.service_run.specs.declared.command.Command.{Command}
use Rattle.call_laws.specs.OneCall.{AreKeepable, IsKeepable}

-- The catalogue is held, the user is there, and what is noted of the command may be kept.
pub record CanGoOn (main : DiskState) (rows : Journal) (y : Command) : Type 0 where
  pub held : (kept : Cat) × IsHeld kept main rows
  pub user : IsTrue (is_user rows.cat y.user)
  pub words : IsKeepable y
  pub kept : AreKeepable y []
