-- A world, seen through the traits of its devices.
use Rattle.grid_outside.specs.Ambient.{AmbientState}
use Rattle.grid_outside.specs.Disk.{DiskState}
use Rattle.grid_outside.specs.Files.{StoreState}
use Rattle.grid_outside.specs.Sink.{SinkState}
use Rattle.grid_outside.specs.Source.{SourceState}
use Rattle.grid_headline.specs.Seen.{seen}
use Rattle.grid_headline.specs.Worlds.{World}
use Rattle.run_laws.specs.declared.around.Around.{Around}

-- what is around a run, by what each device of it is
abbrev pub world : {D S K A P : Type 0} → (D → DiskState) → (S → SourceState) → (K → SinkState) → (A → AmbientState) → (P → StoreState)
    → Around D S K A P → World P
world disk source sink ambient plugin around = seen disk ambient source sink plugin around.outside around.source around.sink
