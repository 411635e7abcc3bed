-- All that is around a run, and how the states of its devices are seen.
use Rattle.std.specs.Prelude.{◌≡◌, ◌≤◌}
use Rattle.grid_outside.specs.Ambient.{AmbientState}
use Rattle.grid_outside.specs.Disk.{DiskState}
use Rattle.grid_outside.specs.Files.{StoreState}
use Rattle.grid_outside.specs.Sink.{SinkState}
use Rattle.grid_outside.specs.Source.{SourceState}
use Rattle.grid_headline.specs.Worlds.{World}
use Rattle.run_laws.specs.declared.around.Around.{Around}
use Rattle.run_laws.specs.Surrounding.{world}
use Rattle.run_laws.specs.Passes.{CallsPass, Seen}

-- what each device of it is
pub record Views (D S K A P : Type 0) : Type 1 where
  pub disk : D → DiskState
  pub source : S → SourceState
  pub sink : K → SinkState
  pub ambient : A → AmbientState
  pub plugin : P → StoreState

-- the source was called, or not
pub record WasRead (old new : SourceState) : Type 0 where
  pub faults : old.faults ≤ new.faults
  pub tells : new.tells ≡ old.tells

module _ {D S K A P : Type 0} (v : Views D S K A P) where
  -- the world
  abbrev pub world_of : Around D S K A P → World P
  world_of a = world v.disk v.source v.sink v.ambient v.plugin a

  -- what a server sees of it
  abbrev pub seen_of : Around D S K A P → Seen D A P K
  seen_of a = record { outside = a.outside; sink = a.sink }

  -- calls of all devices but the source
  abbrev pub PassesOn : Type 0 → Type 0 → Around D S K A P → Around D S K A P → Type 0
  PassesOn disk_failed sink_failed old new = CallsPass v.disk v.plugin v.sink disk_failed sink_failed (seen_of old) (seen_of new)
