-- What a stop leaves of the stores, beside what it leaves of main.
use Rattle.std.specs.Prelude.{◌≡◌, ℕ, ◌<◌, List, slice_get, Some, IsTrue}
use Rattle.grid_outside.specs.Device.{IsSettled}
use Rattle.grid_outside.specs.Disk.{DiskState}
use Rattle.grid_outside.specs.Files.{Files, StoreState}
use Rattle.grid_model.specs.Names.{Text}
use Rattle.grid_model.specs.Rows.{Cat}
use Rattle.grid_model.specs.Whole.{HasGoodRows, IsWhole}
use Rattle.grid_journal.specs.Stands.{StandsFor}

module _ {B : Type 0} (state : B → StoreState) where
  -- Good replicas are as their objects, and whatever a stop at this moment leaves of a store that tells is whole.
  pub record AreWhole (t : ℕ) (c : Cat) (stores : List B) : Type 0 where
    pub rows : HasGoodRows c
    pub files : (slot : ℕ) (store : B) (image : Files) → slice_get stores slot ≡ Some store → IsTrue (state store).tells → (state store).left t image
        → IsWhole c slot image

  -- they are at each moment after so many, by whatever catalogue a stop leaves of main
  abbrev pub StayWhole : ℕ → DiskState → List B → Type 0
  StayWhole from main stores = (t : ℕ) (image : Text) (c : Cat) → from < t → main.left t image → StandsFor image c → AreWhole t c stores

  -- where they were whole by this catalogue, and nothing was pending on main
  abbrev pub KeepWhole : ℕ → Cat → DiskState → DiskState → List B → List B → Type 0
  KeepWhole from c main_old main_new stores_old stores_new =
      IsTrue main_old.tells → IsSettled main_old → ((t : ℕ) → from < t → AreWhole t c stores_old) → StayWhole from main_new stores_new

  -- The same where the rows in memory lead to what comes next, and all was whole by these too.
  abbrev pub KeepBothWhole : ℕ → Cat → Cat → DiskState → DiskState → List B → List B → Type 0
  KeepBothWhole from kept cat main_old main_new stores_old stores_new =
      ((t : ℕ) → from < t → AreWhole t cat stores_old) → KeepWhole from kept main_old main_new stores_old stores_new
