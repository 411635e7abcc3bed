-- How two lists of bytes stand to each other, from a place on to which they are the same.
use Rattle.std.proofs.Common.{◌≡◌, true, false, true≢false, refl, sym, arith, ℕ, ◌<◌, List, [], ◌∷◌, length, drop}
use Rattle.std.specs.declared.cmp.Ordering.{Ordering}
use Rattle.std.specs.declared.cmp.Ordering.TheVariants.{Less, Equal, Greater}
use Rattle.std.specs.Prelude.{zero, suc, slice_index_or, min}
use Rattle.std.specs.Cmp.Lexicographic.{slice_cmp}
use Rattle.std.specs.Ordering.{nat_cmp, ordering_then, is_ne, MatchOrdering}
use Rattle.std.specs.Cmp.{ranked}

-- What stands from the place on decides as the whole.
abbrev pub DecidesFrom : ℕ → List ℕ → List ℕ → Type 0
DecidesFrom i xs ys = slice_cmp nat_cmp (drop i xs) (drop i ys) ≡ slice_cmp nat_cmp xs ys

-- An order that is one decides, and another leaves it to the rest.
pub decides : (first rest : Ordering) → is_ne first ≡ true → first ≡ ordering_then first rest
decides Less rest is = refl
decides Equal rest is = absurd (true≢false (sym is))
decides Greater rest is = refl

pub defers : (first rest : Ordering) → is_ne first ≡ false → rest ≡ ordering_then first rest
defers Less rest is = absurd (true≢false is)
defers Equal rest is = refl
defers Greater rest is = absurd (true≢false is)

-- The bytes at a place, and then what follows.
pub turn : (i : ℕ) (xs ys : List ℕ) → i < length xs → i < length ys →
    ordering_then (nat_cmp (slice_index_or xs i 0) (slice_index_or ys i 0)) (slice_cmp nat_cmp (drop (suc i) xs) (drop (suc i) ys)) ≡ slice_cmp nat_cmp (drop i xs) (drop i ys)
turn i [] ys within other = absurd (omega arith)
turn i (x ∷ xs) [] within other = absurd (omega arith)
turn zero (x ∷ xs) (y ∷ ys) within other = refl
turn (suc i) (x ∷ xs) (y ∷ ys) within other = turn i xs ys (omega arith) (omega arith)

shifted : (a b : ℕ) (r : Ordering) → MatchOrdering r (suc a < suc b) (suc a ≡ suc b) (suc b < suc a) → MatchOrdering r (a < b) (a ≡ b) (b < a)
shifted a b Less h = let l : suc a < suc b = h in omega arith
shifted a b Equal h = let l : suc a ≡ suc b = h in omega arith
shifted a b Greater h = let l : suc b < suc a = h in omega arith

by_length : (i : ℕ) (xs ys : List ℕ) (r : Ordering) → i ≡ min (length xs) (length ys)
    → MatchOrdering r (length xs < length ys) (length xs ≡ length ys) (length ys < length xs) → r ≡ slice_cmp nat_cmp (drop i xs) (drop i ys)
by_length zero [] [] Less at h = let l : 0 < 0 = h in absurd (omega arith)
by_length zero [] [] Equal at h = refl
by_length zero [] [] Greater at h = let l : 0 < 0 = h in absurd (omega arith)
by_length zero [] (y ∷ ys) Less at h = refl
by_length zero [] (y ∷ ys) Equal at h = let l : 0 ≡ suc (length ys) = h in absurd (omega arith)
by_length zero [] (y ∷ ys) Greater at h = let l : suc (length ys) < 0 = h in absurd (omega arith)
by_length zero (x ∷ xs) [] Less at h = let l : suc (length xs) < 0 = h in absurd (omega arith)
by_length zero (x ∷ xs) [] Equal at h = let l : suc (length xs) ≡ 0 = h in absurd (omega arith)
by_length zero (x ∷ xs) [] Greater at h = refl
by_length zero (x ∷ xs) (y ∷ ys) r at h = absurd (omega arith)
by_length (suc i) [] ys r at h = absurd (omega arith)
by_length (suc i) (x ∷ xs) [] r at h = absurd (omega arith)
by_length (suc i) (x ∷ xs) (y ∷ ys) r at h = by_length i xs ys r (omega arith) (shifted (length xs) (length ys) r h)

-- Where one ends, the lengths decide.
pub over : (i : ℕ) (xs ys : List ℕ) (r : Ordering) → i ≡ min (length xs) (length ys) → r ≡ nat_cmp (length xs) (length ys) → r ≡ slice_cmp nat_cmp (drop i xs) (drop i ys)
over i xs ys r at is = by_length i xs ys r at (ranked (length xs) (length ys) r is)
