-- What reading record by record knows on its way.
use Rattle.std.specs.Prelude.{◌≡◌, ◌≢◌, ℕ, ◌+◌, ◌^◌, ◌<◌, List, ◌∷◌, ◌++◌, length, drop, All}
use Rattle.std.specs.Int.{w64, to_be_bytes}
use Rattle.frame_log.specs.Log.{frame, frames, IsShort, BreaksLog}

-- at this place stands a gate that isn't open
pub record IsShutAt (gate : ℕ) (bytes : List ℕ) : Type 0 where
  pub byte : ℕ
  pub rest : List ℕ
  pub shut : byte ≢ 1
  pub is : drop gate bytes ≡ byte ∷ rest

-- At this place stands an open gate, and behind it this length.
pub record IsOpenAt (gate len : ℕ) (bytes : List ℕ) : Type 0 where
  pub short : len < 2 ^ 64
  pub is : drop gate bytes ≡ 1 ∷ to_be_bytes w64 len ++ drop (gate + 9) bytes

-- At this place stands the gate of a record with this body.
pub record IsRecordAt (gate : ℕ) (body bytes : List ℕ) : Type 0 where
  pub short : IsShort body
  pub is : drop gate bytes ≡ frame body ++ drop (gate + 9 + length body) bytes

-- with these records before the gate's place the log breaks behind them
pub record BreaksAt (before : List (List ℕ)) (gate at : ℕ) (bytes : List ℕ) : Type 0 where
  pub offset : ℕ
  pub breaks : BreaksLog before (drop gate bytes) offset
  pub at_is : at ≡ gate + offset

-- from the base to the gate's place the bytes are these records
pub record IsFront (base gate : ℕ) (records : List (List ℕ)) (bytes : List ℕ) : Type 0 where
  pub short : All IsShort records
  pub gate_is : gate ≡ base + length (frames records)
  pub is : drop base bytes ≡ frames records ++ drop gate bytes
