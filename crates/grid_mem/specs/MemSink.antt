-- What a sink in memory means, and what contracts see of it.
use Rattle.std.specs.Prelude.{List, ℕ, Vec, true}
use Rattle.std.specs.declared.alloc.Global.{Global}
use Rattle.grid_outside.specs.Sink.{SinkState}
use Rattle.grid_mem.specs.Calls.{History}
use Rattle.grid_mem.specs.declared.mem_sink.MemSink.{MemSink}
use Rattle.grid_mem.specs.declared.schedule.Schedule.{Schedule}
use Rattle.grid_mem.specs.Recorded.{state_in}
use Rattle.grid_mem.specs.SinkCalls.{sink_kind}
use Rattle.grid_mem.specs.SinkLaws.{sink_laws}

-- its meaning as a sink
unfoldable pub sink_of : MemSink → SinkState
sink_of s = state_in sink_kind sink_laws true s.faults s.last s.start.items s.bytes.items s.calls.items s.valid s.same

-- the bytes at the start, and the puts since, each by its bytes
abbrev pub sink_history : MemSink → History (Vec ℕ Global) (List ℕ)
sink_history s = record { start = s.start.items; calls = s.calls.items }

-- which calls are to fail, and how many there were
abbrev pub sink_schedule : MemSink → Schedule
sink_schedule s = s.schedule
