-- How a run ends, by its words and its status.
use Rattle.std.specs.Prelude.{◌≡◌, ◌≢◌, ◌⊎◌, ℕ, [], ◌++◌, IsTrue}
use Rattle.grid_outside.specs.Disk.{DiskState}
use Rattle.grid_outside.specs.Sink.{SinkState, AddsPart}
use Rattle.grid_model.specs.Names.{Text}
use Rattle.grid_model.specs.declared.grid.Side.{Side}
use Rattle.grid_journal.specs.Store.{IsNotEmpty}
use Rattle.grid_server.specs.declared.status.Status.{Status}
use Rattle.grid_server.specs.declared.status.Status.TheVariants as status
use Rattle.run_laws.specs.Went.{Rests}
use Rattle.grid_server.specs.Starting.{Started, ok_line, not_empty_line, not_a_catalogue_line, stores_line}

-- the device holds what it held, and this behind it
abbrev pub AddsLine : Text → SinkState → SinkState → Type 0
AddsLine text old new = IsTrue old.tells → new.holds ≡ old.holds ++ text

-- the device holds what it held
abbrev pub HoldsStill : SinkState → SinkState → Type 0
HoldsStill old new = IsTrue old.tells → new.holds ≡ old.holds

-- this status with this line on the sink, or the sink failed and has a first part of the line
abbrev pub SaysLine : Text → Status → SinkState → SinkState → Status → Type 0
SaysLine line wanted old new s = ((s ≡ wanted) × AddsLine line old new) ⊎ ((s ≡ status.SinkFault) × (IsTrue old.tells → AddsPart line old.holds new.holds))

-- there is no catalogue, which shows at this place: that is said, unless something fails before
abbrev pub RefusesDisks : Side → ℕ → SinkState → SinkState → Status → Type 0
RefusesDisks side place old new s = SaysLine (not_a_catalogue_line side place) (status.NotACatalogue side place) old new s
    ⊎ (((s ≡ status.DiskFault) ⊎ (s ≡ status.Memory)) × HoldsStill old new)

-- it is of another number of stores: that is said, unless something fails before
abbrev pub RefusesStores : ℕ → ℕ → SinkState → SinkState → Status → Type 0
RefusesStores had given old new s = SaysLine (stores_line had given) (status.Stores had given) old new s
    ⊎ (((s ≡ status.DiskFault) ⊎ (s ≡ status.Memory)) × HoldsStill old new)

-- a disk is not empty where a grid was to be begun
abbrev pub RefusesStart : DiskState → DiskState → DiskState → SinkState → SinkState → Status → Type 0
RefusesStart main_old main_new spare old new s = (side : Side) × (len : ℕ) × IsNotEmpty main_old spare len side × Rests main_old main_new
    × SaysLine (not_empty_line side len) (status.NotEmpty side len) old new s

-- how `init` ends. Where a disk failed, main may hold anything if it was empty
abbrev pub Inits : Text → Text → ℕ → DiskState → DiskState → DiskState → SinkState → SinkState → Status → Type 0
Inits zone admin stores main_old main_new spare old new s =
    (Started zone admin stores main_old main_new spare × SaysLine ok_line status.Done old new s)
    ⊎ RefusesStart main_old main_new spare old new s
    ⊎ ((s ≡ status.DiskFault) × (IsTrue main_old.tells → main_old.holds ≢ [] → main_new.holds ≡ main_old.holds) × HoldsStill old new)
    ⊎ ((s ≡ status.Memory) × Rests main_old main_new × HoldsStill old new)

-- a run over an open catalogue came to its end, or memory, the numbers of runs or of vault files or the room of the log ran
-- out
abbrev pub IsComplete : Status → Type 0
IsComplete status.Done = Unit {0}
IsComplete status.Memory = Unit {0}
IsComplete (status.Worn what place) = Unit {0}
IsComplete other = ⊥

-- a status with which a run of `serve` may end, whatever the devices tell
abbrev pub EndsServing : Status → Type 0
EndsServing status.Usage = ⊥
EndsServing (status.NotEmpty side len) = ⊥
EndsServing other = Unit {0}

-- a run that could not begin, for want of a number, of room or of memory, or because a disk or the sink failed
abbrev pub IsNotBegun : Status → Type 0
IsNotBegun (status.Worn what place) = Unit {0}
IsNotBegun status.Memory = Unit {0}
IsNotBegun status.DiskFault = Unit {0}
IsNotBegun status.SinkFault = Unit {0}
IsNotBegun other = ⊥
