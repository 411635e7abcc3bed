-- Ids that are not taken.
use Rattle.std.proofs.Common.{◌≡◌, ◌≢◌, ◌⊎◌, inl, inr, ℕ, zero, suc, ◌+◌, ◌-◌, ◌<◌, ◌≤◌, false, List, [], ◌∷◌, length, get_or, refl, ap, ◌∙◌, subst, arith}
use Rattle.std.specs.Prelude.{◌||◌, ◌==◌, map}
use Rattle.std.specs.List.{list_any}
use Rattle.std.specs.List.Sorted.{IsStrictlyIncreasing}
use Rattle.std.proofs.lemmas.Bool.{cases_lt}

none_is : (ids : List ℕ) (n : ℕ) → ((k : ℕ) → k < length ids → get_or ids k 0 ≢ n) → list_any (λ id. id == n) ids ≡ false
none_is [] n h = refl
none_is (i ∷ ids) n h =
    let other : (i == n) ≡ false = differs i n (h 0 (omega arith)) in
    ap (λ b. b || list_any (λ id. id == n) ids) other ∙ none_is ids n (λ k inside. h (suc k) (omega (arith, inside)))
  where
    differs : (a b : ℕ) → a ≢ b → (a == b) ≡ false
    differs a b ne = grind arith

rises_on : (ids : List ℕ) → IsStrictlyIncreasing ids → (n i d : ℕ) → i + d < length ids → n < get_or ids i 0 → n < get_or ids (i + d) 0
rises_on ids rising n i zero inside above = let P : ℕ → Type 0 = λ k. n < get_or ids k 0 in let e : i ≡ i + 0 = omega arith in subst P e above
rises_on ids rising n i (suc d) inside above =
    let before : n < get_or ids (i + d) 0 = rises_on ids rising n i d (omega (arith, inside)) above in
    let P : ℕ → Type 0 = λ k. n < get_or ids k 0 in
    let e : i + d + 1 ≡ i + suc d = omega arith in
    subst P e (omega (arith, before, rising (i + d) (omega (arith, inside))))

-- those before are below it, and those from an index on above
pub gap_is_free : (ids : List ℕ) → IsStrictlyIncreasing ids → (n i : ℕ) → ((k : ℕ) → k < i → get_or ids k 0 < n) → (i < length ids → n < get_or ids i 0) → list_any (λ id. id == n) ids ≡ false
gap_is_free ids rising n i below above = none_is ids n (λ k inside. by (cases_lt k i) k inside)
  where
    by : {k : ℕ} → (k < i) ⊎ (i ≤ k) → (j : ℕ) → j < length ids → get_or ids j 0 ≢ n
    by c j inside = side (cases_lt j i)
      where
        side : (j < i) ⊎ (i ≤ j) → get_or ids j 0 ≢ n
        side (inl lt) = λ e. omega (arith, below j lt, e)
        side (inr le) =
            let P : ℕ → Type 0 = λ k. n < get_or ids k 0 in
            let back : i + (j - i) ≡ j = omega (arith, le) in
            let gt : n < get_or ids j 0 = subst P back (rises_on ids rising n i (j - i) (omega (arith, inside, back)) (above (omega (arith, le, inside)))) in
            λ e. omega (arith, gt, e)

module _ {X : Type 0} (number : X → ℕ) (n : ℕ) where
  any-ids : (rows : List X) → list_any (λ r. number r == n) rows ≡ list_any (λ id. id == n) (map number rows)
  any-ids [] = refl
  any-ids (x ∷ rows) = ap (λ b. (number x == n) || b) (any-ids rows)

  -- no row has an id that is none of theirs
  pub none-ids : (rows : List X) → list_any (λ id. id == n) (map number rows) ≡ false → list_any (λ r. number r == n) rows ≡ false
  none-ids rows e = any-ids rows ∙ e
