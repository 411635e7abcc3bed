-- Why no run was opened, by what failed.
use Rattle.grid_outside.specs.declared.outside.Wear.TheVariants as wear
use Rattle.grid_journal.specs.declared.error.JournalError.{JournalError}
use Rattle.grid_journal.specs.declared.error.JournalError.TheVariants as journal
use Rattle.service_run.specs.declared.ending.Ending.{Ending}
use Rattle.service_run.specs.declared.ending.Ending.TheVariants as ending
use Rattle.run_open.specs.declared.error.OpenError.{OpenError}
use Rattle.run_open.specs.declared.error.OpenError.TheVariants as error

-- the recoveries ended so
abbrev pub error_by : Ending → OpenError
error_by ending.Disk = error.Disk
error_by ending.Sink = error.Sink
error_by ending.Memory = error.Memory
error_by (ending.Worn wear.Runs place) = error.Runs place
error_by (ending.Worn wear.Vaults place) = error.Vaults place
error_by (ending.Worn wear.Log place) = error.Log place

-- the commit failed so
abbrev pub error_of : JournalError → OpenError
error_of journal.Memory = error.Memory
error_of journal.DiskFault = error.Disk
error_of (journal.Worn what place) = error.Log place
error_of (journal.NotEmpty side len) = error.Memory
error_of (journal.NotACatalogue side place) = error.Memory
