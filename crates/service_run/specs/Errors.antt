-- How a failed commit ends a call.
use Rattle.grid_journal.specs.declared.error.JournalError.{JournalError}
use Rattle.grid_journal.specs.declared.error.JournalError.TheVariants as journal
use Rattle.service_run.specs.declared.ending.Ending.{Ending}
use Rattle.service_run.specs.declared.ending.Ending.TheVariants.{Disk, Memory, Worn}

-- an error that a commit may have
abbrev pub IsOfCommit : JournalError → Type 0
IsOfCommit (journal.NotEmpty side len) = ⊥
IsOfCommit (journal.NotACatalogue side place) = ⊥
IsOfCommit other = Unit {0}

-- the ending of the call
abbrev pub ending_of : JournalError → Ending
ending_of journal.Memory = Memory
ending_of journal.DiskFault = Disk
ending_of (journal.Worn what place) = Worn what place
ending_of (journal.NotEmpty side len) = Memory
ending_of (journal.NotACatalogue side place) = Memory
