-- What the removal of many files leaves of the stores, and which of them are gone. The rules are this project's own.
use Rattle.std.specs.Prelude.{◌≡◌, ◌⊎◌, ℕ, ◌+◌, ◌-◌, ◌^◌, ◌≤◌, ◌==◌, List, [], ◌∷◌, length, filter, min, None, slice_get, Some}
use Rattle.grid_outside.specs.Device.{Span}
use Rattle.grid_outside.specs.Files.{StoreState, Files, file_at}
use Rattle.grid_model.specs.declared.plans.NewFile.{NewFile}
use Rattle.grid_vault.specs.Vault.{IsAmong, HasSlot}

-- In this slot, files of other names stay. One of these is as it was, or is gone.
pub record RemovesAmong (files : List NewFile) (slot : ℕ) (old new : Files) : Type 0 where
  pub others : (name : ℕ) → ¬ IsAmong files slot name → file_at new name ≡ file_at old name
  pub there_or_not : (name : ℕ) → (file_at new name ≡ file_at old name) ⊎ (file_at new name ≡ None)

-- each of these is in the one list or in the other, in their order
pub data SplitInto : List NewFile → List NewFile → List NewFile → Type 0 where
  none : SplitInto [] [] []
  one_gone : {file : NewFile} {files gone left : List NewFile} → SplitInto files gone left → SplitInto (file ∷ files) (file ∷ gone) left
  one_left : {file : NewFile} {files gone left : List NewFile} → SplitInto files gone left → SplitInto (file ∷ files) gone (file ∷ left)

-- how many of them are in this slot
abbrev pub count_in : ℕ → List NewFile → ℕ
count_in slot files = length (filter (λ (f : NewFile). f.slot == slot) files)

module _ {B : Type 0} (state : B → StoreState) where
  -- Between these two counts of moments each store has at each moment what it had, but for the files whose removal is asked;
  -- stores of other slots are the same.
  abbrev pub RemovesOnly : ℕ → ℕ → List NewFile → List B → List B → Type 0
  RemovesOnly from to files old new = Span state from to (RemovesAmong files) (HasSlot files) old new

  -- in each slot there are at most as many of these as the count of its store rose by, unless that stands at its last value
  abbrev pub FewerThanFaults : List NewFile → List B → List B → Type 0
  FewerThanFaults left old new = (slot : ℕ) (before after : B) → slice_get old slot ≡ Some before → slice_get new slot ≡ Some after
      → min ((state before).faults + count_in slot left) (2 ^ 64 - 1) ≤ (state after).faults
