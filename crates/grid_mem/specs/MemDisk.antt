-- What a disk in memory means, and what contracts see of it.
use Rattle.std.specs.Prelude.{List, ℕ, true}
use Rattle.grid_outside.specs.Disk.{DiskState}
use Rattle.grid_mem.specs.Calls.{History}
use Rattle.grid_mem.specs.declared.disk_deed.DiskDeed.{DiskDeed}
use Rattle.grid_mem.specs.declared.mem_disk.MemDisk.{MemDisk}
use Rattle.grid_mem.specs.declared.schedule.Schedule.{Schedule}
use Rattle.grid_mem.specs.DiskCalls.{disk_kind}
use Rattle.grid_mem.specs.Recorded.{state_in}
use Rattle.grid_mem.specs.DiskLaws.{disk_laws}

-- its meaning as a disk
unfoldable pub disk_of : MemDisk → DiskState
disk_of d = state_in disk_kind disk_laws true d.faults d.last d.start.items d.bytes.items d.calls.items d.valid d.same

-- the bytes at the start, and the calls with a moment since
abbrev pub disk_history : MemDisk → History DiskDeed (List ℕ)
disk_history d = record { start = d.start.items; calls = d.calls.items }

-- which calls are to fail, and how many there were
abbrev pub disk_schedule : MemDisk → Schedule
disk_schedule d = d.schedule
