-- Tables whose keys are numbers: what is found at a number once a row is put or dropped.
use Rattle.std.proofs.Common.{◌≡◌, ◌==◌, ℕ, ◌<◌, true, false, List, [], ◌∷◌, Option, Some, ◌⊎◌, inl, inr, refl, sym, ap, ◌∙◌, arith, eq-eqb, eqb-true}
use Rattle.std.specs.Prelude.{find, filter, cond, not}
use Rattle.std.specs.List.{list_any}
use Rattle.std.specs.List.Sorted.{IsStrictlySortedBy}
use Rattle.std.specs.Ordering.{nat_cmp}
use Rattle.std.specs.Cmp.{ranked, nat_cmp_total, on_total}
use Rattle.std.specs.declared.cmp.Ordering.{Ordering}
use Rattle.std.specs.declared.cmp.Ordering.TheVariants.{Less, Equal, Greater}
use Rattle.std.proofs.lemmas.Bool.{ne_eqb}
use Rattle.std.proofs.lemmas.Bool.Decides.{eqb_tells}
use Rattle.grid_model.specs.Rows.{with_row}
use Rattle.tables_laws.proofs.Rows.{IsIn, in_from_any, any_from_in, find_from_in, in_once, new_in_with_row, old_in_with_row, apart_in_with_row, filter_from_in, in_from_filter}

pub same_number : (a b : ℕ) → nat_cmp a b ≡ Equal → a ≡ b
same_number a b e = ranked a b Equal (sym e)

pub equal_number : (a b : ℕ) → a ≡ b → nat_cmp a b ≡ Equal
equal_number a b e = elim (nat_cmp a b) as (λ o. nat_cmp a b ≡ o → o ≡ Equal) [
  | Less ↦ λ is. absurd (let low : a < b = ranked a b Less (sym is) in omega arith)
  | Equal ↦ λ is. refl
  | Greater ↦ λ is. absurd (let low : b < a = ranked a b Greater (sym is) in omega arith)
] refl

greater_apart : (a b : ℕ) → nat_cmp a b ≡ Greater → b ≡ a → ⊥
greater_apart a b is e = let low : b < a = ranked a b Greater (sym is) in omega arith

module _ {X : Type 0} (number : X → ℕ) where
  abbrev pub by_number : X → X → Ordering
  by_number a b = nat_cmp (number a) (number b)

  abbrev pub at_number : List X → ℕ → Option X
  at_number rows j = find (λ r. number r == j) rows

  -- a row that is put is found, and rows at other numbers are found as before
  pub put_found : (rows : List X) (row : X) → at_number (with_row by_number rows row) (number row) ≡ Some row
  put_found [] row = rw (eq-eqb (number row) (number row) refl) refl
  put_found (r ∷ rows) row =
      elim (nat_cmp (number row) (number r)) as (λ o. nat_cmp (number row) (number r) ≡ o
      → at_number (elim o [ Less ↦ row ∷ r ∷ rows | Equal ↦ row ∷ rows | Greater ↦ r ∷ with_row by_number rows row ]) (number row) ≡ Some row) [
        | Less ↦ λ e. rw (eq-eqb (number row) (number row) refl) refl
        | Equal ↦ λ e. rw (eq-eqb (number row) (number row) refl) refl
        | Greater ↦ λ e. rw (ne_eqb (number r) (number row) (greater_apart (number row) (number r) e)) (put_found rows row)
      ] refl

  pub put_other : (rows : List X) (row : X) (j : ℕ) → (j ≡ number row → ⊥) → at_number (with_row by_number rows row) j ≡ at_number rows j
  put_other [] row j apart = rw (ne_eqb (number row) j (λ e. apart (sym e))) refl
  put_other (r ∷ rows) row j apart =
      elim (nat_cmp (number row) (number r)) as (λ o. nat_cmp (number row) (number r) ≡ o
      → at_number (elim o [ Less ↦ row ∷ r ∷ rows | Equal ↦ row ∷ rows | Greater ↦ r ∷ with_row by_number rows row ]) j ≡ at_number (r ∷ rows) j) [
        | Less ↦ λ e. rw (ne_eqb (number row) j (λ h. apart (sym h))) refl
        | Equal ↦ λ e.
            let same : number row ≡ number r = same_number (number row) (number r) e in
            rw (ne_eqb (number row) j (λ h. apart (sym h)), ne_eqb (number r) j (λ h. apart (sym (same ∙ h)))) refl
        | Greater ↦ λ e. ap (λ (o : Option X). cond (number r == j) (Some r) o) (put_other rows row j apart)
      ] refl

  -- a row that is dropped is not found
  pub dropped_other : (rows : List X) (u j : ℕ) → (j ≡ u → ⊥) → at_number (filter (λ r. not (number r == u)) rows) j ≡ at_number rows j
  dropped_other [] u j apart = refl
  dropped_other (r ∷ rows) u j apart = elim (eqb_tells (number r) u) [
    | inl is ↦ rw (is.0, ne_eqb (number r) j (λ h. apart (sym h ∙ is.1))) (dropped_other rows u j apart)
    | inr not_it ↦ rw not_it.0 (ap (λ (o : Option X). cond (number r == j) (Some r) o) (dropped_other rows u j apart))
  ]

  -- rows have numbers of their own
  pub one_number : (rows : List X) (x y : X) → IsStrictlySortedBy by_number rows → IsIn rows x → IsIn rows y → number x ≡ number y → x ≡ y
  one_number rows x y sorted here there e = in_once by_number (on_total number nat_cmp_total) rows x y sorted here there (equal_number (number x) (number y) e)

  pub found_in : (rows : List X) (x : X) → IsStrictlySortedBy by_number rows → IsIn rows x → at_number rows (number x) ≡ Some x
  found_in rows x sorted here =
      find_from_in (λ r. number r == number x) rows x here (eq-eqb (number x) (number x) refl)
      (λ y there passes. one_number rows y x sorted there here (eqb-true (number y) (number x) passes))

  -- the new row, or one with another number from before
  pub put_in : (rows : List X) (row x : X) → IsStrictlySortedBy by_number rows → IsIn (with_row by_number rows row) x
      → (row ≡ x) ⊎ (IsIn rows x × (number x ≡ number row → ⊥))
  put_in rows row x sorted here = elim (apart_in_with_row by_number (on_total number nat_cmp_total) rows row x sorted here) [
    | inl is ↦ inl is
    | inr was ↦ inr (was.0, λ e. was.1 (equal_number (number row) (number x) (sym e)))
  ]

  -- and a number that was there still is
  pub put_has : (rows : List X) (row : X) (j : ℕ) → list_any (λ r. number r == j) rows ≡ true → list_any (λ r. number r == j) (with_row by_number rows row) ≡ true
  put_has rows row j e = elim (eqb_tells (number row) j) [
    | inl is ↦ any_from_in (λ r. number r == j) _ row (new_in_with_row by_number rows row) is.0
    | inr not_it ↦
        let found = in_from_any (λ r. number r == j) rows e in
        any_from_in (λ r. number r == j) _ found.0
        (old_in_with_row by_number rows row found.0 found.1 (λ h. not_it.1 (same_number (number row) (number found.0) h ∙ eqb-true (number found.0) j found.2))) found.2
  ]

  pub dropped_has : (rows : List X) (u j : ℕ) → (j ≡ u → ⊥) → list_any (λ r. number r == j) rows ≡ true → list_any (λ r. number r == j) (filter (λ r. not (number r == u)) rows) ≡ true
  dropped_has rows u j apart e =
      let found = in_from_any (λ r. number r == j) rows e in
      let other : (number found.0 == u) ≡ false = ne_eqb (number found.0) u (λ h. apart (sym (eqb-true (number found.0) j found.2) ∙ h)) in
      any_from_in (λ r. number r == j) _ found.0 (filter_from_in (λ r. not (number r == u)) rows found.0 found.1 (ap not other)) found.2

  pub dropped_in : (rows : List X) (u : ℕ) (x : X) → IsIn (filter (λ r. not (number r == u)) rows) x → IsIn rows x × (number x ≡ u → ⊥)
  dropped_in rows u x here =
      let kept = in_from_filter (λ r. not (number r == u)) rows x here in
      (kept.0, λ e. let same : (number x == u) ≡ true = eq-eqb (number x) u e in let wrong : not (number x == u) ≡ true = kept.1 in absurd cc)
