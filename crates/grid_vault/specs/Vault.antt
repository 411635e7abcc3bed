-- What the calls of the vault leave of the stores, which are a list by slot. The rules are this project's own.
use Rattle.std.specs.Prelude.{◌≡◌, ℕ, List, slice_get, Some, IsTrue}
use Rattle.grid_outside.specs.Device.{Span}
use Rattle.grid_outside.specs.Fault.{Rose}
use Rattle.grid_outside.specs.Files.{StoreState, Files, IsHashable, Removes, file_at, finished, IsStable, IsGone}
use Rattle.grid_model.specs.declared.plans.NewFile.{NewFile}

-- one of the files has this name in this slot
pub record IsAmong (files : List NewFile) (slot name : ℕ) : Type 0 where
  pub place : ℕ
  pub file : NewFile
  pub is : slice_get files place ≡ Some file
  pub slot_is : file.slot ≡ slot
  pub name_is : file.name ≡ name

-- one of the files is in this slot
pub record HasSlot (files : List NewFile) (slot : ℕ) : Type 0 where
  pub place : ℕ
  pub file : NewFile
  pub is : slice_get files place ≡ Some file
  pub slot_is : file.slot ≡ slot

-- In this slot, files of other names stay, and so do those that were finished. One of these may be absent or hold any
-- bytes.
pub record WritesAmong (files : List NewFile) (slot : ℕ) (old new : Files) : Type 0 where
  pub others : (name : ℕ) → ¬ IsAmong files slot name → file_at new name ≡ file_at old name
  pub stable : (name : ℕ) (bytes : List ℕ) → file_at old name ≡ finished bytes → file_at new name ≡ finished bytes
  pub short : (name : ℕ) → IsHashable (file_at old name) → IsHashable (file_at new name)

module _ {B : Type 0} (state : B → StoreState) where
  -- Between these two counts of moments each store has at each moment what it had, but for the files that are made;
  -- stores of other slots are the same.
  abbrev pub WritesOnly : ℕ → ℕ → List NewFile → List B → List B → Type 0
  WritesOnly from to files old new = Span state from to (WritesAmong files) (HasSlot files) old new

  -- the same of the file whose removal is asked
  abbrev pub RemovesOne : ℕ → ℕ → NewFile → List B → List B → Type 0
  RemovesOne from to file old new = Span state from to (λ slot. Removes file.name) (λ slot. slot ≡ file.slot) old new

  -- the count of the store in this slot rose; of a slot without a store this says nothing
  abbrev pub RoseAt : ℕ → List B → List B → Type 0
  RoseAt slot old new =
      (before after : B) → slice_get old slot ≡ Some before → slice_get new slot ≡ Some after → Rose (state before).faults (state after).faults

  -- the file stands with these bytes in its store, if that tells, and no stop takes it away
  abbrev pub IsStableAt : List B → List ℕ → NewFile → Type 0
  IsStableAt stores bytes file = (store : B) → slice_get stores file.slot ≡ Some store → IsTrue (state store).tells → IsStable file.name bytes (state store)

  -- the file is not in its store, if that tells, and no stop brings it back
  abbrev pub IsGoneAt : List B → NewFile → Type 0
  IsGoneAt stores file = (store : B) → slice_get stores file.slot ≡ Some store → IsTrue (state store).tells → IsGone file.name (state store)
