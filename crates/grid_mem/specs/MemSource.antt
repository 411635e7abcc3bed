-- What a source in memory means, and what contracts see of it.
use Rattle.std.specs.Prelude.{true, drop}
use Rattle.grid_outside.specs.Source.{SourceState}
use Rattle.grid_mem.specs.declared.mem_source.MemSource.{MemSource}
use Rattle.grid_mem.specs.declared.schedule.Schedule.{Schedule}

-- its meaning as a source
abbrev pub source_of : MemSource → SourceState
source_of s = record { faults = s.faults; tells = true; left = drop s.taken s.bytes.items }

-- which calls are to fail, and how many there were
abbrev pub source_schedule : MemSource → Schedule
source_schedule s = s.schedule
