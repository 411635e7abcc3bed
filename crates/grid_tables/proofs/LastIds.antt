-- The last one of rows in rising order of their numbers.
use Rattle.std.proofs.Common.{◌≡◌, ◌==◌, ℕ, suc, ◌<◌, ◌≤◌, ◌-◌, ◌+◌, Bool, true, false, List, [], ◌∷◌, length, slice_index_or, Option, Some, None, inl, inr, Bor, refl, sym, ap, ◌∙◌, arith, eqb-true}
use Rattle.std.specs.Prelude.{IfSome}
use Rattle.std.specs.List.{list_any}
use Rattle.std.specs.List.Sorted.{IsStrictlySortedBy}
use Rattle.std.specs.declared.cmp.Ordering.{Ordering}
use Rattle.std.specs.declared.cmp.Ordering.TheVariants.{Less}
use Rattle.std.specs.Ordering.{nat_cmp}
use Rattle.std.specs.Cmp.{ranked}
use Rattle.grid_model.proofs.FoundRows.{none_any}
use Rattle.tables_laws.proofs.Rows.{IsIn, all_from_in}
use Rattle.grid_tables.proofs.Searching.{later_above}

-- the index of a row
pub index_of : {X : Type 0} (rows : List X) (x : X) → IsIn rows x → (k : ℕ) × (k < length rows) × ((d : X) → slice_index_or rows k d ≡ x)
index_of [] x here = absurd here
index_of (r ∷ rows) x (inl is) = (0, omega arith, λ d. is)
index_of (r ∷ rows) x (inr later) = let found = index_of rows x later in (suc found.0, omega (arith, found.1), found.2)

module _ {X : Type 0} (number : X → ℕ) (cmp : X → X → Ordering) (by_number : (a b : X) → cmp a b ≡ nat_cmp (number a) (number b)) (rows : List X) (sorted : IsStrictlySortedBy cmp rows) where
  at_most : (row x : X) → row ≡ slice_index_or rows (length rows - 1) row → IsIn rows x → number x ≤ number row
  at_most row x last here =
      let found = index_of rows x here in
      elim (found.0 == length rows - 1) as (λ b. (found.0 == length rows - 1) ≡ b → number x ≤ number row) [
        | true ↦ λ e.
            let same : x ≡ row = sym (found.2 row) ∙ ap (λ k. slice_index_or rows k row) (eqb-true _ _ e) ∙ sym last in
            omega (arith, ap number same)
        | false ↦ λ e.
            let before : found.0 < length rows - 1 = grind (arith, found.1, e) in
            let less = later_above cmp rows sorted found.0 (length rows - 1) row before (omega (arith, found.1)) in
            let low : number (slice_index_or rows found.0 row) < number (slice_index_or rows (length rows - 1) row) = ranked _ _ Less (sym (sym (by_number _ _) ∙ less)) in
            omega (arith, low, ap number (found.2 row), ap number last)
      ] refl

  pub last_above : (row : X) → row ≡ slice_index_or rows (length rows - 1) row → (id : ℕ) → number row < id → list_any (λ r. number r == id) rows ≡ false
  last_above row last id low = none_any (λ r. number r == id) rows (all_from_in _ rows (λ x here. apart (number x) (at_most row x last here)))
    where
      apart : (n : ℕ) → n ≤ number row → (n == id) ≡ false
      apart n most = grind (arith, low, most)

  -- of a last row that is lent
  pub greatest_last : (found : Option (Bor X)) → IfSome found (λ row. row.now ≡ slice_index_or rows (length rows - 1) row.now)
      → IfSome found (λ row. (id : ℕ) → number row.now < id → list_any (λ r. number r == id) rows ≡ false)
  greatest_last None last = tt
  greatest_last (Some row) last = last_above row.now last

-- the id behind the last one
pub next_behind : (found : Option ℕ) (last : ℕ) (has : ℕ → Bool) → IfSome found (λ id. id ≡ last + 1) → ((id : ℕ) → last < id → has id ≡ false) → IfSome found (λ id. has id ≡ false)
next_behind None last has is none = tt
next_behind (Some id) last has is none = none id (omega (arith, is))
