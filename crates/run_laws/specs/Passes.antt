-- What calls of the outside and of a sink leave of them, whatever they were for.
use Rattle.std.specs.Prelude.{ℕ, ◌≤◌}
use Rattle.grid_outside.specs.Disk.{DiskState}
use Rattle.grid_outside.specs.Fault.{Rose}
use Rattle.grid_outside.specs.Files.{StoreState}
use Rattle.grid_outside.specs.Sink.{SinkState}
use Rattle.grid_outside.specs.declared.outside.Outside.{Outside}
use Rattle.grid_deed.specs.Frame.{Goes, IsReady, Frame}

-- an outside with a sink
pub record Seen (D A P K : Type 0) : Type 0 where
  pub outside : Outside D A P
  pub sink : K

module _ {D A P K : Type 0} (disk : D → DiskState) (plugin : P → StoreState) (sink : K → SinkState) where
  -- no device was given a moment that is not drawn, and so many more can be drawn
  pub record AreReady (more : ℕ) (at : Seen D A P K) : Type 0 where
    pub outside : IsReady disk plugin more at.outside
    pub sink_last : (sink at.sink).last ≤ at.outside.moments

  -- Calls of all devices, one after another; the ambient may have been asked too.
  pub record CallsPass (disk_failed sink_failed : Type 0) (old new : Seen D A P K) : Type 0 where
    pub frame : Frame disk plugin disk_failed (record old.outside { ambient = new.outside.ambient }) new.outside
    pub sink_last : (sink old.sink).last ≤ old.outside.moments → (sink new.sink).last ≤ new.outside.moments
    pub goes : Goes old.outside.moments (sink old.sink) (sink new.sink)
    pub sink_cause : sink_failed → Rose (sink old.sink).faults (sink new.sink).faults
