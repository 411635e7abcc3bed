-- What is kept of a command in one commit.
use Rattle.std.specs.Prelude.{◌≡◌, ℕ, ◌^◌, ◌<◌, Result, Ok, Err, IsTrue, ⊤}
use Rattle.grid_outside.specs.Device.{IsSettled, Leaves}
use Rattle.grid_outside.specs.Disk.{DiskState}
use Rattle.grid_outside.specs.declared.outside.Wear.TheVariants.{Log}
use Rattle.grid_model.specs.Rows.{Cat}
use Rattle.grid_journal.specs.Journal.{ClosesAt}
use Rattle.grid_journal.specs.Stands.{StandsEither}
use Rattle.grid_deed.specs.Held.{IsKept}
use Rattle.cmd_run.specs.declared.server.Server.{Server}
use Rattle.cmd_run.specs.declared.server.Ending.{Ending}
use Rattle.cmd_run.specs.declared.server.Ending.TheVariants.{Disk, Sink, Memory, Worn}

-- how the keeping ended
abbrev pub KeepEnds : Cat → Cat → DiskState → DiskState → Result ⊤ Ending → Server → Type 0
KeepEnds kept after main_old main_new (Ok done) new = IsKept after main_old main_new new.store
KeepEnds kept after main_old main_new (Err Disk) new = Unit {0}
KeepEnds kept after main_old main_new (Err Memory) new = Unit {0}
KeepEnds kept after main_old main_new (Err (Worn what place)) new = (what ≡ Log) × (2 ^ 62 < place) × (IsTrue main_old.tells → ClosesAt main_new.holds place)
KeepEnds kept after main_old main_new (Err Sink) new = ⊥

-- Main has the one catalogue or the other, the later one where all was kept.
pub record IsKeptSo (kept after : Cat) (from : ℕ) (main_old main_new : DiskState) (result : Result ⊤ Ending) (new : Server) : Type 0 where
  pub ends : KeepEnds kept after main_old main_new result new
  pub leaves : IsTrue main_old.tells → IsSettled main_old → Leaves from (StandsEither kept after) main_new
