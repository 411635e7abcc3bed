-- What a file that is read part by part gives.
use Rattle.std.specs.Prelude.{◌≡◌, ℕ, Bool, true, false, IsTrue, ◌+◌, ◌-◌, ◌^◌, ◌<◌, ◌≤◌, List, ◌++◌, min, length, take, drop, Some}
use Rattle.sha2.specs.Hashers.{Holds256}
use Rattle.sha2.specs.Sha256.{sha256}
use Rattle.grid_outside.specs.Files.{File, Files, StoreState, file_at}
use Rattle.grid_model.specs.Digests.{HasDigest}
use Rattle.grid_model.specs.declared.plans.OldFile.{OldFile}
use Rattle.grid_vault.specs.declared.reading.Part.{Part}
use Rattle.grid_vault.specs.declared.reading.Found.{Found}
use Rattle.grid_vault.specs.declared.reading.FileReader.{FileReader}

-- from this place on the buffer was filled as far as the file goes
pub record GivesPart (name at count : ℕ) (files : Files) (buf : List ℕ) : Type 0 where
  pub file : File
  pub is : file_at files name ≡ Some file
  pub short : length file.bytes < 2 ^ 61
  pub count_is : count ≡ min (length buf) (length file.bytes - at)
  pub part : take count buf ≡ take count (drop at file.bytes)

-- So many bytes of the buffer are the file's from this place on, and the last ones go to its end or one byte past the
-- recorded size.
pub record IsPartOf (recorded : OldFile) (at given : ℕ) (is_last : Bool) (files : Files) (buf : List ℕ) : Type 0 where
  pub file : File
  pub is : file_at files recorded.name ≡ Some file
  pub short : length file.bytes < 2 ^ 61
  pub within : given ≤ length file.bytes - at
  pub part : take given buf ≡ take given (drop at file.bytes)
  pub last : is_last ≡ true → given ≡ min (recorded.size + 1 - at) (length file.bytes - at)

-- The reader has read a part more, which stands at the front of the buffer.
pub record ReadsOn (store : StoreState) (recorded : OldFile) (part : Part) (buf : List ℕ) (old new : FileReader) : Type 0 where
  pub given : ℕ
  pub within : given ≤ length buf
  pub read : new.read ≡ old.read + given
  pub hashed : (bytes : List ℕ) → Holds256 old.hasher bytes → Holds256 new.hasher (bytes ++ take given buf)
  pub count : part.count ≡ min given (recorded.size - old.read)
  pub count_within : part.count ≤ 65536
  pub at_most : new.read ≤ recorded.size + 1
  pub short : new.read < 2 ^ 61
  pub goes_on : part.is_last ≡ false → (given ≡ 65536) × (new.read ≤ recorded.size)
  pub of_file : IsTrue store.tells → IsPartOf recorded old.read given part.is_last store.holds buf

-- the bytes have the size and the digest that are recorded
abbrev pub IsAsRecorded : OldFile → List ℕ → Type 0
IsAsRecorded recorded bytes = HasDigest recorded.size recorded.digest bytes

-- they do not, and these are theirs
pub record Differs (recorded : OldFile) (bytes : List ℕ) (found : Found) : Type 0 where
  pub not_recorded : ¬ IsAsRecorded recorded bytes
  pub len : found.len ≡ length bytes
  pub digest : found.digest ≡ sha256 bytes
