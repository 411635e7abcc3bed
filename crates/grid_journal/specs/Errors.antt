-- How a refusal of the log is answered.
use Rattle.frame_log.specs.declared.error.LogError.{LogError}
use Rattle.frame_log.specs.declared.error.LogError.TheVariants as log
use Rattle.grid_model.specs.declared.grid.Side.TheVariants.{Main}
use Rattle.grid_journal.specs.declared.error.JournalError.{JournalError}
use Rattle.grid_journal.specs.declared.error.JournalError.TheVariants.{Memory, DiskFault, NotACatalogue, Worn}

-- the same error of the catalogue; a log is on main
abbrev pub error_of : LogError → JournalError
error_of log.Memory = Memory
error_of log.DiskFault = DiskFault
error_of (log.Worn what at) = Worn what at
error_of (log.NotALog at) = NotACatalogue Main at
