-- A world, seen through the traits of its devices, with any source.
use Rattle.grid_outside.specs.Disk.{DiskState}
use Rattle.grid_outside.specs.Files.{StoreState}
use Rattle.grid_outside.specs.Source.{SourceState}
use Rattle.grid_outside.specs.Sink.{SinkState}
use Rattle.grid_outside.specs.Ambient.{AmbientState}
use Rattle.grid_outside.specs.declared.outside.Outside.{Outside}
use Rattle.grid_headline.specs.Worlds.{World}

-- what an outside is with a sink and a source, by what each device of it is
abbrev pub around : {D A P : Type 0} → (D → DiskState) → (A → AmbientState) → (P → StoreState) → Outside D A P → SinkState → SourceState → World P
around disk ambient plugin o sink source = record {
  main = disk o.main;
  spare = disk o.spare;
  source = source;
  sink = sink;
  ambient = ambient o.ambient;
  plugin = plugin;
  stores = o.stores.items;
  moments = o.moments;
}
