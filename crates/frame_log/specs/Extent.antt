-- Where a log stands on its disk.
use Rattle.std.specs.Prelude.{◌≡◌, ℕ, ◌+◌, List, [], ◌∷◌, length, map}
use Rattle.frame_log.specs.Log.{frames, IsLog}

-- a log as it is known without reading its disk
pub record Extent : Type 0 where
  -- the place of the first gate
  pub base : ℕ
  -- the place of the closing gate
  pub gate : ℕ
  -- the length of the first record's body
  pub first_len : ℕ

-- the length of the first of these bodies
abbrev pub first_length : List (List ℕ) → ℕ
first_length [] = 0
first_length (body ∷ bodies) = length body

-- the extent of a log of these records
abbrev pub extent_of : ℕ → List (List ℕ) → Extent
extent_of base records = record { base = base; gate = base + length (frames records); first_len = first_length records }

-- the extent after a record with a body of this length
abbrev pub grown : Extent → ℕ → Extent
grown log len = record log { gate = log.gate + 9 + len }

-- the bytes are a log of these records, and this is its extent
pub record IsLogOf (log : Extent) (records : List (List ℕ)) (bytes : List ℕ) : Type 0 where
  pub is_log : IsLog log.base records bytes
  pub extent : log ≡ extent_of log.base records

-- Records with the places of their bodies, of which the first one's gate stands here.
abbrev pub placed : ℕ → List (List ℕ) → List (ℕ × List ℕ)
placed gate [] = []
placed gate (body ∷ bodies) = (gate + 9, body) ∷ placed (gate + 9 + length body) bodies

-- the bodies of records with their places
abbrev pub bodies : List (ℕ × List ℕ) → List (List ℕ)
bodies rs = map (λ r. r.1) rs
