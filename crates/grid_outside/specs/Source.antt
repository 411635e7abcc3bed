-- What a source has left to be read. The model is this project's own.
use Rattle.std.specs.Prelude.{◌≡◌, ◌⊎◌, ℕ, Bool, List, [], ◌++◌, length, take}

-- a source, by what it still has to give
pub record SourceState : Type 0 where
  -- how often it has failed; the count never falls, and stands still at 2^64 - 1
  pub faults : ℕ
  -- whether it tells what is left, and what is left where it tells
  pub tells : Bool
  pub left : List ℕ

-- A read took a first part of what was left, and nothing only at the end or for an empty buffer.
pub record TakesFront (old : List ℕ) (count : ℕ) (buf new : List ℕ) : Type 0 where
  pub split : old ≡ take count buf ++ new
  pub at_end : count ≡ 0 → (old ≡ []) ⊎ (length buf ≡ 0)
