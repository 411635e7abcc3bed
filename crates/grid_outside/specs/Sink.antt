-- What a sink was given. The model is this project's own.
use Rattle.std.specs.Prelude.{◌≡◌, ℕ, ◌≤◌, List, ◌++◌, length, take}
use Rattle.grid_outside.specs.Device.{DeviceState}

-- a sink holds the bytes that were put, one put after another
abbrev pub SinkState : Type 1
SinkState = DeviceState (List ℕ)

-- a first part of these bytes was added, maybe none of them, maybe all
pub record AddsPart (bytes old new : List ℕ) : Type 0 where
  pub count : ℕ
  pub within : count ≤ length bytes
  pub is : new ≡ old ++ take count bytes
