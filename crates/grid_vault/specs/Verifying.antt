-- What reading a file to its end says of it.
use Rattle.std.specs.Prelude.{◌≡◌, ℕ, ◌+◌, ◌^◌, ◌<◌, ◌≤◌, List, length, Option, None, MatchOption, IsTrue}
use Rattle.grid_outside.specs.Files.{StoreState}
use Rattle.grid_model.specs.declared.plans.OldFile.{OldFile}
use Rattle.grid_vault.specs.Reading.{IsAsRecorded, Differs}
use Rattle.grid_vault.specs.Sending.{HoldsBytes, IsReadOf}
use Rattle.grid_vault.specs.declared.reading.Found.{Found}

-- So many bytes were read, at most one past the recorded size: over a store that tells all of the file, or its first ones.
pub record Verifies (store : StoreState) (recorded : OldFile) (found : Option Found) : Type 0 where
  pub bytes : List ℕ
  pub one_more : length bytes ≤ recorded.size + 1
  pub short : length bytes < 2 ^ 61
  pub of_file : IsTrue store.tells → IsReadOf recorded bytes store.holds
  -- they are what is recorded, or not, and then this is what was found
  pub says : MatchOption found (IsAsRecorded recorded bytes) (Differs recorded bytes)
  -- a file that is as recorded is these bytes
  pub whole : found ≡ None → IsTrue store.tells → HoldsBytes recorded.name bytes store.holds
