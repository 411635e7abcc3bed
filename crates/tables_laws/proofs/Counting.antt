-- How many rows pass a test.
use Rattle.std.proofs.Common.{◌≡◌, ℕ, suc, ◌+◌, ◌<◌, ◌≤◌, Bool, true, false, cond, List, [], ◌∷◌, length, inl, inr, refl, sym, ap, ◌∙◌, arith}
use Rattle.std.specs.Prelude.{filter}
use Rattle.std.specs.List.Sorted.{IsStrictlySortedBy}
use Rattle.std.specs.declared.cmp.Ordering.{Ordering}
use Rattle.std.specs.declared.cmp.Ordering.TheVariants.{Less, Equal, Greater}
use Rattle.std.specs.Cmp.{IsTotalOrder}
use Rattle.grid_model.specs.Rows.{with_row}
use Rattle.tables_laws.proofs.Rows.{IsIn, in_from_all}

abbrev pub count : {X : Type 0} → (X → Bool) → List X → ℕ
count p rows = length (filter p rows)

module _ {X : Type 0} where
  count-cons : (p : X → Bool) (r : X) (rows : List X) → count p (r ∷ rows) ≡ cond (p r) 1 0 + count p rows
  count-cons p r rows = elim (p r) as (λ b. length (cond b (r ∷ filter p rows) (filter p rows)) ≡ cond b 1 0 + count p rows) [ true ↦ omega arith | false ↦ omega arith ]

  -- a test that passes more
  pub count-more : (p q : X → Bool) (rows : List X) → ((x : X) → IsIn rows x → p x ≡ true → q x ≡ true) → count p rows ≤ count q rows
  count-more p q [] more = omega arith
  count-more p q (r ∷ rows) more =
      let rest : count p rows ≤ count q rows = count-more p q rows (λ x later. more x (inr later)) in
      first (p r) (q r) (more r (inl refl)) rest
    where
      first : (a b : Bool) → (a ≡ true → b ≡ true) → count p rows ≤ count q rows → length (cond a (r ∷ filter p rows) (filter p rows)) ≤ length (cond b (r ∷ filter q rows) (filter q rows))
      first true true so rest = omega (arith, rest)
      first true false so rest = absurd (let wrong : false ≡ true = so refl in cc)
      first false true so rest = omega (arith, rest)
      first false false so rest = rest

  -- and this row too
  pub count-less : (p q : X → Bool) (rows : List X) (x : X) → ((y : X) → IsIn rows y → p y ≡ true → q y ≡ true) → IsIn rows x → p x ≡ false → q x ≡ true → count p rows < count q rows
  count-less p q [] x more here fails passes = absurd here
  count-less p q (r ∷ rows) x more (inl is) fails passes =
      let rest : count p rows ≤ count q rows = count-more p q rows (λ y later. more y (inr later)) in
      let one : p r ≡ false = ap p is ∙ fails in
      let other : q r ≡ true = ap q is ∙ passes in
      let left : count p (r ∷ rows) ≡ count p rows = ap (λ b. length (cond b (r ∷ filter p rows) (filter p rows))) one in
      let right : count q (r ∷ rows) ≡ suc (count q rows) = ap (λ b. length (cond b (r ∷ filter q rows) (filter q rows))) other in
      omega (arith, rest, left, right)
  count-less p q (r ∷ rows) x more (inr later) fails passes =
      let rest : count p rows < count q rows = count-less p q rows x (λ y below. more y (inr below)) later fails passes in
      first (p r) (q r) (more r (inl refl)) rest
    where
      first : (a b : Bool) → (a ≡ true → b ≡ true) → count p rows < count q rows → length (cond a (r ∷ filter p rows) (filter p rows)) < length (cond b (r ∷ filter q rows) (filter q rows))
      first true true so rest = omega (arith, rest)
      first true false so rest = absurd (let wrong : false ≡ true = so refl in cc)
      first false true so rest = omega (arith, rest)
      first false false so rest = rest

module _ {X : Type 0} (cmp : X → X → Ordering) (p : X → Bool) where
  turned : (a b n m : ℕ) → n ≡ b + m → a + n ≡ b + (a + m)
  turned a b n m e = omega (arith, e)

  -- a row that is put, where one that it replaces fails
  pub count-put : (rows : List X) (row : X) → ((x : X) → IsIn rows x → cmp row x ≡ Equal → p x ≡ false) → count p (with_row cmp rows row) ≡ cond (p row) 1 0 + count p rows
  count-put [] row fails = count-cons p row []
  count-put (r ∷ rows) row fails =
      elim (cmp row r) as (λ o. cmp row r ≡ o → count {X = X} p (elim o [ Less ↦ row ∷ r ∷ rows | Equal ↦ row ∷ rows | Greater ↦ r ∷ with_row cmp rows row ]) ≡ cond (p row) 1 0 + count p (r ∷ rows)) [
        | Less ↦ λ e. count-cons p row (r ∷ rows)
        | Equal ↦ λ e. count-cons p row rows ∙ ap (λ n. cond (p row) 1 0 + n) (sym (ap (λ b. length (cond b (r ∷ filter p rows) (filter p rows))) (fails r (inl refl) e)))
        | Greater ↦ λ e.
            count-cons p r (with_row cmp rows row)
            ∙ turned (cond (p r) 1 0) (cond (p row) 1 0) (count p (with_row cmp rows row)) (count p rows) (count-put rows row (λ x later. fails x (inr later)))
            ∙ ap (λ n. cond (p row) 1 0 + n) (sym (count-cons p r rows))
      ] refl

  -- a row that is put for one that passes where it does
  pub count-replaced : IsTotalOrder cmp → (rows : List X) (row old : X) → IsStrictlySortedBy cmp rows → IsIn rows old → cmp row old ≡ Equal → ((x : X) → IsIn rows x → cmp row x ≡ Equal → p x ≡ p row)
      → count p (with_row cmp rows row) ≡ count p rows
  unfolding IsStrictlySortedBy
  count-replaced o [] row old sorted here tied alike = absurd here
  count-replaced o (r ∷ rows) row old sorted here tied alike =
      elim (cmp row r) as (λ q. cmp row r ≡ q → count {X = X} p (elim q [ Less ↦ row ∷ r ∷ rows | Equal ↦ row ∷ rows | Greater ↦ r ∷ with_row cmp rows row ]) ≡ count p (r ∷ rows)) [
        | Less ↦ λ e. absurd (elim here [
          | inl is ↦ let wrong : cmp row r ≡ Equal = ap (cmp row) is ∙ tied in cc
          | inr later ↦ let wrong : cmp row old ≡ Less = o.trans row r old e (in_from_all (λ y. cmp r y ≡ Less) rows sorted.0 old later) in cc
        ])
        | Equal ↦ λ e. count-cons p row rows ∙ ap (λ b. cond b 1 0 + count p rows) (sym (alike r (inl refl) e)) ∙ sym (count-cons p r rows)
        | Greater ↦ λ e. elim here [
          | inl is ↦ absurd (let wrong : cmp row r ≡ Equal = ap (cmp row) is ∙ tied in cc)
          | inr later ↦
              count-cons p r (with_row cmp rows row) ∙ ap (λ n. cond (p r) 1 0 + n) (count-replaced o rows row old sorted.1 later tied (λ x below. alike x (inr below)))
              ∙ sym (count-cons p r rows)
        ]
      ] refl
