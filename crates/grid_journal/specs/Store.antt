-- What the calls of a store do.
use Rattle.std.specs.Prelude.{◌≡◌, ℕ, ◌<◌, IsTrue, List, [], ◌++◌, length, flat_map, Ok}
use Rattle.frame_log.specs.Extent.{grown}
use Rattle.grid_outside.specs.Disk.{DiskState}
use Rattle.grid_model.specs.Deltas.{spelling}
use Rattle.grid_model.specs.Applying.{apply_all}
use Rattle.grid_model.specs.declared.deltas.Delta.{Delta}
use Rattle.grid_model.specs.declared.grid.Side.{Side}
use Rattle.grid_model.specs.declared.grid.Side.TheVariants.{Main, Spare}
use Rattle.grid_journal.specs.Journal.{Journal}

-- a disk that tells held nothing
abbrev pub WasEmpty : DiskState → Type 0
WasEmpty disk = IsTrue disk.tells → disk.holds ≡ []

-- the first of main and spare that isn't empty, and how many bytes it has
abbrev pub IsNotEmpty : DiskState → DiskState → ℕ → Side → Type 0
IsNotEmpty main spare len Main = (0 < len) × (IsTrue main.tells → length main.holds ≡ len)
IsNotEmpty main spare len Spare = (0 < len) × (IsTrue main.tells → main.holds ≡ []) × (IsTrue spare.tells → length spare.holds ≡ len)

-- just opened
pub record IsOpened (journal : Journal) : Type 0 where
  pub staged : journal.staged ≡ []
  pub sound : IsTrue journal.sound

-- The deltas are applied to the rows and stand behind those that were staged before.
pub record Stages (deltas : List Delta) (old new : Journal) : Type 0 where
  pub applied : apply_all old.cat deltas ≡ Ok new.cat
  pub staged : new.staged ≡ old.staged ++ deltas
  pub log : new.log ≡ old.log
  pub sound : IsTrue new.sound

-- The deltas are applied to the rows, and the log has one more record: of the staged ones and then these.
pub record Commits (deltas : List Delta) (old new : Journal) : Type 0 where
  pub applied : apply_all old.cat deltas ≡ Ok new.cat
  pub staged : new.staged ≡ []
  pub log : new.log ≡ grown old.log (length (flat_map spelling (old.staged ++ deltas)))
  pub sound : IsTrue new.sound
