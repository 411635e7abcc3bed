-- The files of a store, which stands for the vault of a storage resource, what its calls do to them, and what a stop
-- may do. The model is this project's own.
use Rattle.std.specs.Prelude.{◌≡◌, ◌≢◌, ◌⊎◌, ℕ, ◌+◌, ◌-◌, ◌^◌, ◌<◌, ◌≤◌, Bool, true, false, List, [], ◌++◌, length, take, drop, Option, Some, None}
use Rattle.std.specs.Ordering.{nat_cmp}
use Rattle.std.specs.FinMap.{FinMap, get}
use Rattle.grid_outside.specs.Device.{DeviceState}

-- a file, by its bytes and whether it is finished
pub record File : Type 0 where
  pub bytes : List ℕ
  pub finished : Bool

-- the files of a store by their names, which are numbers
abbrev pub Files : Type 0
Files = FinMap nat_cmp File

-- the file of this name, if there is one
abbrev pub file_at : Files → ℕ → Option File
file_at files name = get files name

-- a store holds files
abbrev pub StoreState : Type 1
StoreState = DeviceState Files

-- a file that was created, has these bytes so far, and is not finished
abbrev pub unfinished : List ℕ → Option File
unfinished bytes = Some (record { bytes = bytes; finished = false })

-- a finished file with these bytes
abbrev pub finished : List ℕ → Option File
finished bytes = Some (record { bytes = bytes; finished = true })

-- Where there is a file it has fewer than 2^61 bytes, and so fewer than 2^64 bits: it has a SHA-256 (FIPS 180-4,
-- section 1).
abbrev pub IsHashable : Option File → Type 0
IsHashable None = Unit {0}
IsHashable (Some file) = length file.bytes < 2 ^ 61

-- all files but that of this name are the same
abbrev pub SameBut : ℕ → Files → Files → Type 0
SameBut name old new = (other : ℕ) → other ≢ name → file_at new other ≡ file_at old other

-- A create, an append or a finish of the file of this name, done in part or whole: the file may be absent or hold any
-- bytes, but one that is finished stays, and one that was short stays short.
pub record Writes (name : ℕ) (old new : Files) : Type 0 where
  pub others : SameBut name old new
  pub stable : (bytes : List ℕ) → file_at old name ≡ finished bytes → file_at new name ≡ finished bytes
  pub short : IsHashable (file_at old name) → IsHashable (file_at new name)

-- a removal of the file of this name, done or not: the file is as it was, or is gone
pub record Removes (name : ℕ) (old new : Files) : Type 0 where
  pub others : SameBut name old new
  pub there_or_not : (file_at new name ≡ file_at old name) ⊎ (file_at new name ≡ None)

-- The finished file of this name with these bytes is held, and a stop after the last call leaves it so.
pub record IsStable (name : ℕ) (bytes : List ℕ) (s : StoreState) : Type 0 where
  pub held : file_at s.holds name ≡ finished bytes
  pub left : (t : ℕ) (image : Files) → s.last < t → s.left t image → file_at image name ≡ finished bytes

-- there is no file of this name, and a stop after the last call doesn't bring one back
pub record IsGone (name : ℕ) (s : StoreState) : Type 0 where
  pub held : file_at s.holds name ≡ None
  pub left : (t : ℕ) (image : Files) → s.last < t → s.left t image → file_at image name ≡ None

-- a create that was done: there was no such file, and there is an empty one, which is not finished
pub record Created (name : ℕ) (old new : Files) : Type 0 where
  pub absent : file_at old name ≡ None
  pub empty : file_at new name ≡ unfinished []

-- an append that was done: the file was begun, and has these bytes more at its end
pub record Appended (name : ℕ) (bytes : List ℕ) (old new : Files) : Type 0 where
  pub front : List ℕ
  pub was : file_at old name ≡ unfinished front
  pub fits : length front + length bytes < 2 ^ 61
  pub is : file_at new name ≡ unfinished (front ++ bytes)

-- a finish that was done: the file was begun, and is finished for good
pub record Finished (name : ℕ) (old new : StoreState) : Type 0 where
  pub bytes : List ℕ
  pub was : file_at old.holds name ≡ unfinished bytes
  pub stable : IsStable name bytes new

-- A read gave a part of the file, and nothing only at its end or for an empty buffer.
pub record ReadsFile (name at count : ℕ) (files : Files) (buf : List ℕ) : Type 0 where
  pub file : File
  pub is : file_at files name ≡ Some file
  pub short : length file.bytes < 2 ^ 61
  pub part : take count buf ≡ take count (drop at file.bytes)
  pub within : count ≤ length file.bytes - at
  pub at_end : count ≡ 0 → (length file.bytes ≤ at) ⊎ (length buf ≡ 0)

-- the file of this name is there and has so many bytes
pub record HasSize (name size : ℕ) (files : Files) : Type 0 where
  pub file : File
  pub is : file_at files name ≡ Some file
  pub short : length file.bytes < 2 ^ 61
  pub size_is : size ≡ length file.bytes
