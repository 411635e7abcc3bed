-- Texts, one behind another, and how many of them stand whole in so many bytes.
use Rattle.std.proofs.Common.{◌≡◌, ℕ, ◌+◌, ◌-◌, ◌<◌, ◌≤◌, Bool, true, false, List, [], ◌∷◌, ◌++◌, length, refl, sym, ap, ◌∙◌, append_assoc, length-append, arith}
use Rattle.std.specs.Prelude.{nat_le}
use Rattle.std.specs.List.{AllByRecursion}
use Rattle.std.proofs.lemmas.Bool.{leb-true, leb-false}
use Rattle.grid_model.specs.Names.{Text}
use Rattle.grid_headline.specs.Served.{joined_texts, whole_in}

-- no text is empty
abbrev pub HaveBytes : List Text → Type 0
HaveBytes = AllByRecursion (λ (t : Text). 0 < length t)

pub joined-push : (ts : List Text) (t : Text) → joined_texts (ts ++ t ∷ []) ≡ joined_texts ts ++ t
joined-push [] t = append_nil_of t
  where
    append_nil_of : (t : Text) → t ++ [] ≡ t
    append_nil_of [] = refl
    append_nil_of (b ∷ t) = ap (λ u. b ∷ u) (append_nil_of t)
joined-push (u ∷ ts) t = ap (λ v. u ++ v) (joined-push ts t) ∙ sym (append_assoc u (joined_texts ts) t)

-- in no bytes none is
pub whole-none : (ts : List Text) → HaveBytes ts → whole_in ts 0 ≡ 0
whole-none [] have = refl
whole-none (t ∷ ts) have = by (nat_le (length t) 0) refl
  where
    by : (b : Bool) → nat_le (length t) 0 ≡ b → ◌≡◌ {A = ℕ} (elim b [ true ↦ whole_in ts (0 - length t) + 1 | false ↦ 0 ]) 0
    by true e = let le : length t ≤ 0 = leb-true (length t) 0 e in absurd (omega (arith, le, have.0))
    by false e = refl

-- in the bytes of some and more those are, and more
pub whole-behind : (ts us : List Text) (k : ℕ) → whole_in (ts ++ us) (length (joined_texts ts) + k) ≡ length ts + whole_in us k
whole-behind [] us k = let e : 0 + k ≡ k = omega arith in ap (whole_in us) e ∙ omega arith
whole-behind (t ∷ ts) us k = by (whole-behind ts us k) (nat_le (length t) (length (t ++ joined_texts ts) + k)) refl
  where
    by : whole_in (ts ++ us) (length (joined_texts ts) + k) ≡ length ts + whole_in us k → (b : Bool) → nat_le (length t) (length (t ++ joined_texts ts) + k) ≡ b
        → ◌≡◌ {A = ℕ} (elim b [ true ↦ whole_in (ts ++ us) (length (t ++ joined_texts ts) + k - length t) + 1 | false ↦ 0 ]) (length (t ∷ ts) + whole_in us k)
    by rest true e =
        let s : length (t ++ joined_texts ts) + k - length t ≡ length (joined_texts ts) + k = omega (arith, length-append t (joined_texts ts)) in
        let more = ap (whole_in (ts ++ us)) s ∙ rest in
        omega (arith, more)
    by rest false e = let less : length (t ++ joined_texts ts) + k < length t = leb-false (length t) (length (t ++ joined_texts ts) + k) e in absurd (omega (arith, less, length-append t (joined_texts ts)))

-- in the bytes of some no text behind them is
pub whole-more : (ts us : List Text) (count : ℕ) → HaveBytes us → count ≤ length (joined_texts ts) → whole_in (ts ++ us) count ≡ whole_in ts count
whole-more [] us count have less = let e : count ≡ 0 = omega (arith, less) in ap (whole_in us) e ∙ whole-none us have
whole-more (t ∷ ts) us count have less = by (whole-more ts us (count - length t) have (omega (arith, less, length-append t (joined_texts ts)))) (nat_le (length t) count)
  where
    by : whole_in (ts ++ us) (count - length t) ≡ whole_in ts (count - length t) → (b : Bool)
        → ◌≡◌ {A = ℕ} (elim b [ true ↦ whole_in (ts ++ us) (count - length t) + 1 | false ↦ 0 ]) (elim b [ true ↦ whole_in ts (count - length t) + 1 | false ↦ 0 ])
    by rest true = ap (λ n. n + 1) rest
    by rest false = refl

-- no more than there are
pub whole-most : (ts : List Text) (count : ℕ) → whole_in ts count ≤ length ts
whole-most [] count = omega arith
whole-most (t ∷ ts) count = by (whole-most ts (count - length t)) (nat_le (length t) count)
  where
    by : whole_in ts (count - length t) ≤ length ts → (b : Bool) → elim b [ true ↦ whole_in ts (count - length t) + 1 | false ↦ 0 ] ≤ length (t ∷ ts)
    by rest true = omega (arith, rest)
    by rest false = omega arith

-- in the bytes of all of them all are
pub whole-all : (ts : List Text) → whole_in ts (length (joined_texts ts)) ≡ length ts
whole-all [] = refl
whole-all (t ∷ ts) = by (whole-all ts) (nat_le (length t) (length (t ++ joined_texts ts))) refl
  where
    by : whole_in ts (length (joined_texts ts)) ≡ length ts → (b : Bool) → nat_le (length t) (length (t ++ joined_texts ts)) ≡ b
        → ◌≡◌ {A = ℕ} (elim b [ true ↦ whole_in ts (length (t ++ joined_texts ts) - length t) + 1 | false ↦ 0 ]) (length (t ∷ ts))
    by rest true e =
        let s : length (t ++ joined_texts ts) - length t ≡ length (joined_texts ts) = omega (arith, length-append t (joined_texts ts)) in
        let more = ap (whole_in ts) s ∙ rest in
        omega (arith, more)
    by rest false e = let less : length (t ++ joined_texts ts) < length t = leb-false (length t) (length (t ++ joined_texts ts)) e in absurd (omega (arith, less, length-append t (joined_texts ts)))

-- of one text less than it holds none
pub whole-less : (t : Text) (us : List Text) (count : ℕ) → count < length t → whole_in (t ∷ us) count ≡ 0
whole-less t us count less = by (nat_le (length t) count) refl
  where
    by : (b : Bool) → nat_le (length t) count ≡ b → ◌≡◌ {A = ℕ} (elim b [ true ↦ whole_in us (count - length t) + 1 | false ↦ 0 ]) 0
    by true e = let le : length t ≤ count = leb-true (length t) count e in absurd (omega (arith, le, less))
    by false e = refl
