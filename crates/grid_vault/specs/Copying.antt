-- What copying a file to several others leaves of the stores, and what each answer says.
use Rattle.std.specs.Prelude.{◌≡◌, ◌⊎◌, ℕ, ◌+◌, ◌^◌, ◌<◌, ◌≤◌, All, List, length, Option, None, MatchOption, slice_get, Some, IsTrue}
use Rattle.grid_outside.specs.Device.{Span}
use Rattle.grid_outside.specs.Files.{StoreState, file_at, unfinished}
use Rattle.grid_model.specs.declared.plans.NewFile.{NewFile}
use Rattle.grid_model.specs.declared.plans.OldFile.{OldFile}
use Rattle.grid_vault.specs.Reading.{IsAsRecorded, Differs}
use Rattle.grid_vault.specs.Sending.{IsReadOf}
use Rattle.grid_vault.specs.Vault.{HasSlot, WritesAmong, IsStableAt}
use Rattle.grid_vault.specs.declared.reading.Found.{Found}

-- no two of them have one name
abbrev pub AreNamedApart : List NewFile → Type 0
AreNamedApart files = (i j : ℕ) (f g : NewFile) → slice_get files i ≡ Some f → slice_get files j ≡ Some g → f.name ≡ g.name → i ≡ j

module _ {B : Type 0} (state : B → StoreState) where
  -- the file was begun in its store, if that tells, and has these bytes so far
  abbrev pub IsBegunAt : List B → List ℕ → NewFile → Type 0
  IsBegunAt stores bytes file =
      (store : B) → slice_get stores file.slot ≡ Some store → IsTrue (state store).tells → file_at (state store).holds file.name ≡ unfinished bytes

  -- Between these two counts of moments each store has at each moment what it had, but for the files that are made; only the store in
  -- this slot and those of the files were called.
  abbrev pub CopiesOnly : ℕ → ℕ → ℕ → List NewFile → List B → List B → Type 0
  CopiesOnly from to source files old new = Span state from to (WritesAmong files) (λ k. HasSlot files k ⊎ (k ≡ source)) old new

  -- So many bytes were read, at most one past the recorded size: over a store that tells all of the file, or its first ones. Where they
  -- are what is recorded each of the files is finished with them, and no stop takes it away.
  pub record Copies (recorded : OldFile) (files : List NewFile) (old new : List B) (found : Option Found) : Type 0 where
    pub bytes : List ℕ
    pub one_more : length bytes ≤ recorded.size + 1
    pub short : length bytes < 2 ^ 61
    pub of_file : (store : B) → slice_get old recorded.slot ≡ Some store → IsTrue (state store).tells → IsReadOf recorded bytes (state store).holds
    pub says : MatchOption found (IsAsRecorded recorded bytes) (Differs recorded bytes)
    pub stable : found ≡ None → All (IsStableAt state new bytes) files
