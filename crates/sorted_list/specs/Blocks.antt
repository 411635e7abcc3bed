-- Lists of keys in blocks.
use Rattle.std.specs.Prelude.{◌≡◌, ◌<◌, ◌≤◌, ℕ, zero, suc, Bool, true, false, List, [], ◌∷◌, ◌++◌, Vec, Option, None, Some, length, take, drop, slice_get}
use Rattle.std.specs.List.{AllByRecursion}
use Rattle.std.specs.List.Sorted.{IsStrictlySortedBy, IsPartitionedBy, IsPartitionPoint}
use Rattle.std.specs.declared.cmp.Ordering.{Ordering}

module _ {K Z : Type 0} where
  -- the keys of blocks, one block after another
  abbrev pub joined : List (Vec K Z) → List K
  joined [] = []
  joined (b ∷ bs) = b.items ++ joined bs

  -- a key stands in each block
  abbrev pub AreFilled : List (Vec K Z) → Type 0
  AreFilled bs = AllByRecursion (λ b. 0 < length b.items) bs

  -- the keys in front of a place, which is in the block with a number, behind so many of its keys
  abbrev pub in_front : List (Vec K Z) → ℕ → ℕ → List K
  in_front [] n at = []
  in_front (b ∷ bs) zero at = take at b.items
  in_front (b ∷ bs) (suc n) at = b.items ++ in_front bs n at

  -- the keys behind it
  abbrev pub behind : List (Vec K Z) → ℕ → ℕ → List K
  behind [] n at = []
  behind (b ∷ bs) zero at = drop at b.items ++ joined bs
  behind (b ∷ bs) (suc n) at = behind bs n at

  -- a place is within a block; where there is none, within nothing
  abbrev pub IsWithin : List (Vec K Z) → ℕ → ℕ → Type 0
  IsWithin [] n at = (n ≡ 0) × (at ≡ 0)
  IsWithin (b ∷ bs) zero at = at ≤ length b.items
  IsWithin (b ∷ bs) (suc n) at = (n < length bs) × IsWithin bs n at

  -- a key stands at a place
  abbrev pub IsInside : List (Vec K Z) → ℕ → ℕ → Type 0
  IsInside [] n at = ⊥
  IsInside (b ∷ bs) zero at = at < length b.items
  IsInside (b ∷ bs) (suc n) at = (n < length bs) × IsInside bs n at

  -- One block was cut in two, behind so many of its keys.
  abbrev pub IsCutInTwo : List (Vec K Z) → ℕ → ℕ → List (Vec K Z) → Type 0
  IsCutInTwo [] n middle new = ⊥
  IsCutInTwo (b ∷ bs) zero middle new = (one : Vec K Z) × (other : Vec K Z) × (one.items ≡ take middle b.items) × (other.items ≡ drop middle b.items) × (new ≡ one ∷ other ∷ bs)
  IsCutInTwo (b ∷ bs) (suc n) middle new = (rest : List (Vec K Z)) × IsCutInTwo bs n middle rest × (new ≡ b ∷ rest)

  -- blocks with keys in order, and none without a key
  pub record AreBlocks (order : K → K → Ordering) (bs : List (Vec K Z)) : Type 0 where
    pub filled : AreFilled bs
    pub sorted : IsStrictlySortedBy order (joined bs)

-- whether the first key passes a test
abbrev pub begins : {K : Type 0} → (K → Bool) → List K → Bool
begins test [] = false
begins test (k ∷ ks) = test k

-- so many items from the first one on pass a test, where those that pass it stand first
abbrev pub IsCutBy : {X : Type 0} → (X → Bool) → List X → ℕ → Type 0
IsCutBy test xs n = IsPartitionedBy test xs → IsPartitionPoint (λ x. test x ≡ true) (λ x. test x ≡ false) xs n

-- These are the items from the first one on that pass a test, and those behind them fail it.
pub record IsFrontBy {X : Type 0} (test : X → Bool) (all front : List X) : Type 0 where
  pub rest : List X
  pub whole : all ≡ front ++ rest
  pub passes : AllByRecursion (λ x. test x ≡ true) front
  pub fails : AllByRecursion (λ x. test x ≡ false) rest
