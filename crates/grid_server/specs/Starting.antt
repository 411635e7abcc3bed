-- What a run of `init` did, and the lines that a run writes beside replies.
use Rattle.std.specs.Prelude.{◌≡◌, ℕ, [], ◌∷◌, ◌++◌, IsTrue, codes, decimal}
use Rattle.grid_outside.specs.Device.{IsSettled}
use Rattle.grid_outside.specs.Disk.{DiskState}
use Rattle.grid_model.specs.Names.{Text}
use Rattle.grid_model.specs.Grid as model
use Rattle.grid_model.specs.RowGrids.{grid_of}
use Rattle.grid_model.specs.declared.grid.Side.{Side}
use Rattle.grid_model.specs.declared.grid.Side.TheVariants.{Main, Spare}
use Rattle.grid_journal.specs.Start.{start}
use Rattle.grid_journal.specs.Stands.{StandsFor}

-- ---- the lines

-- which words ask for something, with those that are not built yet
abbrev pub usage_line : Text
usage_line = codes "usage: ird init <zone> <admin> | serve | check | gen <seed> <count>\n"

-- what was asked is done
abbrev pub ok_line : Text
ok_line = codes "ok\n"

-- a disk in a line, and a space
abbrev pub side_name : Side → Text
side_name Main = codes "main "
side_name Spare = codes "spare "

-- the disks hold no catalogue, which shows at this place of that one
abbrev pub not_a_catalogue_line : Side → ℕ → Text
not_a_catalogue_line side place = codes "err NotACatalogue " ++ side_name side ++ decimal place ++ 0x0A ∷ []

-- the catalogue is of so many stores, and so many were handed in
abbrev pub stores_line : ℕ → ℕ → Text
stores_line had given = codes "err Stores " ++ decimal had ++ codes " " ++ decimal given ++ 0x0A ∷ []

-- this disk has so many bytes, and should have none
abbrev pub not_empty_line : Side → ℕ → Text
not_empty_line side len = codes "err NotEmpty " ++ side_name side ++ decimal len ++ 0x0A ∷ []

-- ---- a new grid

-- The grid is begun: both disks were empty, and main stands for its catalogue, synced.
pub record Started (zone admin : Text) (stores : ℕ) (main_old main_new spare : DiskState) : Type 0 where
  pub main_empty : IsTrue main_old.tells → main_old.holds ≡ []
  pub spare_empty : IsTrue spare.tells → spare.holds ≡ []
  pub stands : IsTrue main_old.tells → StandsFor main_new.holds (start zone admin stores)
  pub grid : grid_of (start zone admin stores) ≡ model.start_grid zone admin stores
  pub settled : IsTrue main_old.tells → IsSettled main_new
