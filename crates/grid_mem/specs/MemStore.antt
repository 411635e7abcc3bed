-- What a store in memory means, and what contracts see of it.
use Rattle.std.specs.Prelude.{ℕ, Bool, false, ◌==◌, ◌&&◌, nat_le, Option, Some, None, is_none}
use Rattle.std.specs.List.{list_any}
use Rattle.grid_outside.specs.Files.{Files, StoreState}
use Rattle.grid_mem.specs.Calls.{History}
use Rattle.grid_mem.specs.declared.lies.Lies.{Lies}
use Rattle.grid_mem.specs.declared.mem_store.MemStore.{MemStore}
use Rattle.grid_mem.specs.declared.schedule.Schedule.{Schedule}
use Rattle.grid_mem.specs.declared.store_deed.StoreDeed.{StoreDeed}
use Rattle.grid_mem.specs.MemFiles.{contents}
use Rattle.grid_mem.specs.Recorded.{state_in}
use Rattle.grid_mem.specs.Schedule.{next_number}
use Rattle.grid_mem.specs.StoreCalls.{store_kind}
use Rattle.grid_mem.specs.StoreLaws.{store_laws}

-- Its meaning as a store. One that may lie never tells.
unfoldable pub store_of : MemStore → StoreState
store_of s = state_in store_kind store_laws (is_none s.lies) s.faults s.last (contents s.history.start) (contents s.files) s.history.calls.items s.valid s.same

-- the files at the start, and the calls with a moment since
abbrev pub store_history : MemStore → History StoreDeed Files
store_history s = record { start = contents s.history.start; calls = s.history.calls.items }

-- which calls are to fail, and how many there were
abbrev pub store_schedule : MemStore → Schedule
store_schedule s = s.schedule

-- the lies that it tells, if it was made to lie
abbrev pub lies_of : MemStore → Option Lies
lies_of s = s.lies

-- a lie about the file of this name is due at the call of this number
abbrev pub covers : Option Lies → ℕ → ℕ → Bool
covers None name number = false
covers (Some lies) name number = nat_le lies.from number && list_any (λ other. other == name) lies.names.items

-- whether the next call lies about the file of this name
abbrev pub is_lying : MemStore → ℕ → Bool
is_lying s name = covers s.lies name (next_number s.schedule)
