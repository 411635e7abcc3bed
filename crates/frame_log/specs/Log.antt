-- What the bytes of a log stand for. They are known here as they are, and not by who wrote them. The format is this
-- project's own.
use Rattle.std.specs.Prelude.{◌≡◌, ◌≢◌, ◌⊎◌, ℕ, ◌+◌, ◌^◌, ◌<◌, List, [], ◌∷◌, ◌++◌, length, take, drop, All}
use Rattle.std.specs.Int.{w64, to_be_bytes}

-- a record behind its gate, which is open: the gate, the body's length in 8 bytes, and the body
abbrev pub frame : List ℕ → List ℕ
frame body = 1 ∷ to_be_bytes w64 (length body) ++ body

-- records, one behind another
abbrev pub frames : List (List ℕ) → List ℕ
frames [] = []
frames (body ∷ bodies) = frame body ++ frames bodies

-- the length of this body fits 8 bytes
abbrev pub IsShort : List ℕ → Type 0
IsShort body = length body < 2 ^ 64

-- From the base on the bytes are these records, at least one, and a gate that isn't open. What follows isn't read.
pub record IsLog (base : ℕ) (records : List (List ℕ)) (bytes : List ℕ) : Type 0 where
  pub gate : ℕ
  pub rest : List ℕ
  pub some : records ≢ []
  pub short : All IsShort records
  pub closed : gate ≢ 1
  pub is : drop base bytes ≡ frames records ++ gate ∷ rest

-- What stands behind whole records where there is no log, and how far from the gate's place that shows.
pub data BreaksLog : List (List ℕ) → List ℕ → ℕ → Type 0 where
  -- the gate is missing
  no_gate : (before : List (List ℕ)) → BreaksLog before [] 0
  -- the first gate isn't open
  no_record : (gate : ℕ) (rest : List ℕ) → gate ≢ 1 → BreaksLog [] (gate ∷ rest) 0
  -- the length runs past the end
  no_length : (before : List (List ℕ)) (rest : List ℕ) → length rest < 8 → BreaksLog before (1 ∷ rest) 1
  -- the body runs past the end
  no_body : (before : List (List ℕ)) (size : ℕ) (rest : List ℕ) → size < 2 ^ 64 → length rest < size → BreaksLog before (1 ∷ to_be_bytes w64 size ++ rest) 1

-- From the base on there is no log, and this is the place where that shows.
pub record IsBroken (base at : ℕ) (bytes : List ℕ) : Type 0 where
  pub before : List (List ℕ)
  pub short : All IsShort before
  pub rest : List ℕ
  pub offset : ℕ
  pub is : drop base bytes ≡ frames before ++ rest
  pub breaks : BreaksLog before rest offset
  pub at_is : at ≡ base + length (frames before) + offset

-- what bytes are read as from a base on: a log of these records, or none, with the place where that shows
pub data Reading : Type 0 where
  log_of : List (List ℕ) → Reading
  no_log : ℕ → Reading

-- the bytes from the base on are read so
abbrev pub ReadsAs : ℕ → List ℕ → Reading → Type 0
ReadsAs base bytes (log_of records) = IsLog base records bytes
ReadsAs base bytes (no_log at) = IsBroken base at bytes

-- they are read so and in no other way
pub record ReadsOnlyAs (base : ℕ) (bytes : List ℕ) (reading : Reading) : Type 0 where
  pub reads : ReadsAs base bytes reading
  pub only : (other : Reading) → ReadsAs base bytes other → other ≡ reading

-- Of a log to which a record is added: what lies before the base is the same, and from there on stand the old
-- records, or these and the new one.
pub record IsOldOrNew (base : ℕ) (records : List (List ℕ)) (body old image : List ℕ) : Type 0 where
  pub before : take base image ≡ take base old
  pub reads : IsLog base records image ⊎ IsLog base (records ++ body ∷ []) image
