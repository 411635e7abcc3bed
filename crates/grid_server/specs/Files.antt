-- Stores without files.
use Rattle.std.specs.Prelude.{◌≡◌, ℕ, List, slice_get, None, Some, IsTrue}
use Rattle.grid_outside.specs.Files.{Files, StoreState, file_at}

-- a stop at this moment leaves no file in a store that tells
abbrev pub HaveNoFiles : {B : Type 0} → (B → StoreState) → ℕ → List B → Type 0
HaveNoFiles {B} state t stores = (slot : ℕ) (store : B) (image : Files) → slice_get stores slot ≡ Some store → IsTrue (state store).tells
    → (state store).left t image → (name : ℕ) → file_at image name ≡ None
