-- Keys that are counted up to the greatest number.
use Rattle.std.proofs.Common.{◌≡◌, ℕ, zero, suc, ◌<◌, ◌≤◌, ◌+◌, ◌^◌, ◌-◌, List, [], ◌∷◌, ◌++◌, Vec, length, take, slice_index_or, refl, sym, ap, ◌∙◌, arith, length-append}
use Rattle.sorted_list.specs.Blocks.{joined}

-- It is the number, or the greatest one where that is less.
pub record IsCount (count number : ℕ) : Type 0 where
  pub low : count ≤ number
  pub exact : count < 2 ^ 64 - 1 → count ≡ number

sum_none : {K : Type 0} (xs : List K) → length (xs ++ []) ≡ 0 + length xs
sum_none xs = omega (arith, length-append xs [])

pub joined_more : {K Z : Type 0} (bs : List (Vec K Z)) (i : ℕ) (block : Vec K Z) → i < length bs → block ≡ slice_index_or bs i block
    → length (joined (take (i + 1) bs)) ≡ length (joined (take i bs)) + length block.items
joined_more {K} {Z} bs i block low is = let e : i + 1 ≡ suc i = omega arith in ap (λ n. length (joined (take n bs))) e ∙ by bs i low is
  where
    by : (bs : List (Vec K Z)) (i : ℕ) → i < length bs → block ≡ slice_index_or bs i block → length (joined (take (suc i) bs)) ≡ length (joined (take i bs)) + length block.items
    by [] i low is = absurd (omega arith)
    by (b ∷ bs) zero low is = sum_none b.items ∙ ap (λ (v : Vec K Z). 0 + length v.items) (sym is)
    by (b ∷ bs) (suc i) low is =
        omega (arith, length-append b.items (joined (take (suc i) bs)), length-append b.items (joined (take i bs)), by bs i (omega arith) is)
