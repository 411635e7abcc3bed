-- The calls of a disk in memory: what they do to what is held, when they fit, and what a stop may leave of them.
use Rattle.std.specs.Prelude.{◌≡◌, ℕ, ◌+◌, Bool, true, false, ◌&&◌, List, ◌++◌, length, take, drop, nat_le, ⊤, if◌then◌else◌}
use Rattle.grid_outside.specs.Disk.{Torn, Cut, Same}
use Rattle.grid_outside.specs.DiskModel.{Unsynced, synced_at, after_write, after_cut}
use Rattle.grid_mem.specs.Calls.{History, Kind, known_at}
use Rattle.grid_mem.specs.declared.disk_deed.DiskDeed.{DiskDeed}
use Rattle.grid_mem.specs.declared.disk_deed.DiskDeed.TheVariants.{Write, Cut as CutTo, Sync}

-- the bytes after a deed that was done
abbrev pub deed_done : List ℕ → DiskDeed → List ℕ
deed_done bytes (Write at written) = take at bytes ++ written.items ++ drop (at + length written.items) bytes
deed_done bytes (CutTo len) = take len bytes
deed_done bytes Sync = bytes

-- a call that failed did nothing to what is held
abbrev pub disk_after : List ℕ → DiskDeed → Bool → List ℕ
disk_after bytes deed true = deed_done bytes deed
disk_after bytes deed false = bytes

-- the place of a write and the length of a cut are at most the length
abbrev pub deed_fits : List ℕ → DiskDeed → Bool
deed_fits bytes (Write at written) = nat_le at (length bytes)
deed_fits bytes (CutTo len) = nat_le len (length bytes)
deed_fits bytes Sync = true

-- what a deed may have done when a stop came
abbrev pub MayDo : DiskDeed → List ℕ → List ℕ → Type 0
MayDo (Write at written) = Torn at (length written.items)
MayDo (CutTo len) = Cut len
MayDo Sync = Same

-- after a sync that was done an image is what is held
abbrev pub IsSure : DiskDeed → Bool → List ℕ → List ℕ → Type 0
IsSure Sync true bytes image = image ≡ bytes
IsSure Sync false bytes image = ⊤
IsSure (Write at written) done bytes image = ⊤
IsSure (CutTo len) done bytes image = ⊤

-- a disk as a kind of device
abbrev pub disk_kind : Kind DiskDeed (List ℕ)
disk_kind = record { after = disk_after; fits = λ bytes deed done. deed_fits bytes deed; May = MayDo; Sure = IsSure }

-- what is unsynced after a call that has begun, by the rules of a disk
abbrev pub unsynced_after : Bool → List ℕ → DiskDeed → Bool → Unsynced → Unsynced
unsynced_after over bytes (Write at written) done u = after_write at (length written.items) u
unsynced_after over bytes (CutTo len) done u = after_cut len u
unsynced_after over bytes Sync done u = if over && done then synced_at bytes else u

-- What is unsynced at the moment, of a disk with this history.
abbrev pub unsynced_at : ℕ → History DiskDeed (List ℕ) → Unsynced
unsynced_at moment history =
    known_at disk_kind (λ over bytes call. unsynced_after over bytes call.deed call.done) moment history.start history.calls (synced_at history.start)

-- a write of these bytes at this place
abbrev pub IsWrite : ℕ → List ℕ → DiskDeed → Type 0
IsWrite at bytes (Write place written) = (place ≡ at) × (written.items ≡ bytes)
IsWrite at bytes (CutTo len) = ⊥
IsWrite at bytes Sync = ⊥
