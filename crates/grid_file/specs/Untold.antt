-- What a device means whose contents lie outside: it counts its faults and the moments that it was given, and tells
-- nothing else.
use Rattle.std.specs.Prelude.{◌≡◌, ℕ, true, false, []}
use Rattle.std.specs.FinMap.{empty}
use Rattle.grid_outside.specs.Ambient.{AmbientState}
use Rattle.grid_outside.specs.Device.{DeviceState}
use Rattle.grid_outside.specs.Disk.{DiskState}
use Rattle.grid_outside.specs.Files.{StoreState}
use Rattle.grid_outside.specs.Sink.{SinkState}
use Rattle.grid_outside.specs.Source.{SourceState}

-- what never tells owes nothing where it tells
pub not_told : {A : Type 0} → false ≡ true → A
not_told e = absurd (cc e)

-- a stop may leave anything
abbrev pub untold : {C : Type 0} → C → ℕ → ℕ → DeviceState C
untold nothing faults last = record {
  faults = faults;
  tells = false;
  holds = nothing;
  last = last;
  left = λ t image. Unit {0};
  steady = λ s t image after_s after_t left. tt;
  now = λ tells t after. tt;
  start = λ tells zero t image. not_told tells;
}

abbrev pub untold_disk : ℕ → ℕ → DiskState
untold_disk faults last = untold [] faults last

abbrev pub untold_store : ℕ → ℕ → StoreState
untold_store faults last = untold empty faults last

abbrev pub untold_sink : ℕ → ℕ → SinkState
untold_sink faults last = untold [] faults last

abbrev pub untold_source : ℕ → SourceState
untold_source faults = record { faults = faults; tells = false; left = [] }

abbrev pub untold_ambient : AmbientState
untold_ambient = record { tells = false; times = []; words = [] }
