-- What a file that is read and put on a sink as data lines leaves of the sink and the stores, and what each answer says.
use Rattle.std.specs.Prelude.{◌≡◌, ◌⊎◌, ℕ, ◌+◌, ◌*◌, ◌^◌, ◌<◌, ◌≤◌, List, ◌++◌, min, length, take, slice_get, Some, IsTrue}
use Rattle.sha2.specs.Sha256.{sha256}
use Rattle.grid_outside.specs.Device.{Between, Looks, Leaves, IsSettled, Span, EachPair}
use Rattle.grid_outside.specs.Files.{File, Files, StoreState, file_at}
use Rattle.grid_outside.specs.Sink.{SinkState, AddsPart}
use Rattle.grid_model.specs.DataLines.{data_lines, parts}
use Rattle.grid_model.specs.Limits.{part_size}
use Rattle.grid_model.specs.declared.plans.OldFile.{OldFile}
use Rattle.grid_vault.specs.Reading.{IsAsRecorded}
use Rattle.grid_vault.specs.declared.sent.Sent.{Sent}
use Rattle.grid_vault.specs.declared.sent.Sent.TheVariants.{Whole, Fault, Bad}

-- bytes were added and none taken away
pub record Grows (old new : List ℕ) : Type 0 where
  pub added : List ℕ
  pub is : new ≡ old ++ added

-- A first part of these bytes was put on the sink, maybe none of them, maybe all. Where nothing was pending on it, a stop at any
-- moment leaves what it held and a first part of them.
pub record Puts (from to : ℕ) (bytes : List ℕ) (old new : SinkState) : Type 0 where
  pub span : Between from to Grows old new
  pub holds : IsTrue old.tells → AddsPart bytes old.holds new.holds
  pub settled : IsTrue old.tells → IsSettled old → IsSettled new
  pub any_moment : IsTrue old.tells → IsSettled old → Leaves from (AddsPart bytes old.holds) new

-- all of them were
pub record PutsAll (from to : ℕ) (bytes : List ℕ) (old new : SinkState) : Type 0 where
  pub puts : Puts from to bytes old new
  pub all : IsTrue old.tells → new.holds ≡ old.holds ++ bytes

-- the file has these bytes
pub record HoldsBytes (name : ℕ) (bytes : List ℕ) (files : Files) : Type 0 where
  pub file : File
  pub is : file_at files name ≡ Some file
  pub bytes_are : file.bytes ≡ bytes

-- the file begins with these bytes
pub record BeginsWith (name : ℕ) (bytes : List ℕ) (files : Files) : Type 0 where
  pub file : File
  pub is : file_at files name ≡ Some file
  pub front : bytes ≡ take (length bytes) file.bytes

-- these are the file's bytes, or its first ones up to one past the recorded size
pub record IsReadOf (recorded : OldFile) (bytes : List ℕ) (files : Files) : Type 0 where
  pub file : File
  pub is : file_at files recorded.name ≡ Some file
  pub bytes_are : bytes ≡ take (recorded.size + 1) file.bytes

-- What was sent is what is recorded, and over a store that tells it is the file.
pub record IsSentWhole (store : StoreState) (recorded : OldFile) (sent : List ℕ) : Type 0 where
  pub as_recorded : IsAsRecorded recorded sent
  pub of_file : IsTrue store.tells → HoldsBytes recorded.name sent store.holds

-- So many whole parts were sent before a call of this slot failed.
pub record IsFaulty (store : StoreState) (recorded : OldFile) (sent : List ℕ) (slot count : ℕ) : Type 0 where
  pub slot_is : slot ≡ recorded.slot
  pub count_is : count ≡ parts (length sent)
  pub whole_parts : length sent ≡ min (count * part_size) recorded.size
  pub of_file : IsTrue store.tells → 0 < count → BeginsWith recorded.name sent store.holds

-- So many bytes with this digest were read, which is not what is recorded, and sent in so many parts but for one past the recorded
-- size.
pub record IsBad (store : StoreState) (recorded : OldFile) (sent : List ℕ) (slot len : ℕ) (found : List ℕ) (count : ℕ) : Type 0 where
  pub slot_is : slot ≡ recorded.slot
  pub read : List ℕ
  pub not_recorded : ¬ IsAsRecorded recorded read
  pub len_is : len ≡ length read
  pub found_is : found ≡ sha256 read
  pub one_more : len ≤ recorded.size + 1
  pub short : len < 2 ^ 61
  pub sent_is : sent ≡ take recorded.size read
  pub count_is : count ≡ parts (length sent)
  pub of_file : IsTrue store.tells → IsReadOf recorded read store.holds

-- what an answer says of the bytes that were sent
abbrev pub Answers : StoreState → OldFile → List ℕ → Sent → Type 0
Answers store recorded sent Whole = IsSentWhole store recorded sent
Answers store recorded sent (Fault slot count) = IsFaulty store recorded sent slot count
Answers store recorded sent (Bad slot len found count) = IsBad store recorded sent slot len found count

-- Some bytes were sent as data lines, and the answer says which.
pub record SendsLines (store : StoreState) (from to : ℕ) (recorded : OldFile) (number : ℕ) (old new : SinkState) (answer : Sent) : Type 0 where
  pub sent : List ℕ
  pub lines : PutsAll from to (data_lines number sent) old new
  pub answers : Answers store recorded sent answer

-- These bytes are fewer than are recorded, and over a store that tells they are the file.
pub record IsCutShort (store : StoreState) (recorded : OldFile) (sent : List ℕ) : Type 0 where
  pub fewer : length sent < recorded.size
  pub of_file : IsTrue store.tells → HoldsBytes recorded.name sent store.holds

-- Some bytes were to be sent as data lines, so many whole parts or all that is recorded, or all of a file that is too short, and
-- the sink took a first part of these.
pub record Breaks (store : StoreState) (from to : ℕ) (recorded : OldFile) (number : ℕ) (old new : SinkState) : Type 0 where
  pub sent : List ℕ
  pub count : ℕ
  pub whole_parts : (length sent ≡ min (count * part_size) recorded.size) ⊎ IsCutShort store recorded sent
  pub lines : Puts from to (data_lines number sent) old new
  pub of_file : IsTrue store.tells → BeginsWith recorded.name sent store.holds

-- if the answer is a fault
abbrev pub OnFault : Sent → Type 0 → Type 0
OnFault Whole P = Unit {0}
OnFault (Fault slot count) P = P
OnFault (Bad slot len found count) P = Unit {0}

module _ {B : Type 0} (state : B → StoreState) where
  -- P of the store in this slot
  pub record AtSlot (slot : ℕ) (stores : List B) (P : StoreState → Type 0) : Type 0 where
    pub store : B
    pub is : slice_get stores slot ≡ Some store
    pub holds : P (state store)

  -- Between these two counts of moments each store has at each moment what it had, and only that in this slot was asked.
  pub record AllKeep (from to slot : ℕ) (old new : List B) : Type 0 where
    pub span : Span state from to (λ k before after. after ≡ before) (λ k. k ≡ slot) old new
    pub looks : EachPair (λ k before after. Looks (state before) (state after)) old new

-- what an answer says of the bytes that were read
abbrev pub SaysOf : OldFile → List ℕ → ℕ → Sent → Type 0
SaysOf recorded read parts Whole = IsAsRecorded recorded read
SaysOf recorded read parts (Fault slot count) = ⊥
SaysOf recorded read parts (Bad slot len found count) =
    (slot ≡ recorded.slot) × (len ≡ length read) × (found ≡ sha256 read) × (count ≡ parts) × (¬ IsAsRecorded recorded read)
