-- What is found among rows to which one is added.
use Rattle.std.proofs.Common.{◌≡◌, ℕ, suc, Bool, true, false, cond, List, [], ◌∷◌, length, Some, None, refl, sym, ap, ◌∙◌, subst}
use Rattle.std.specs.Prelude.{find, is_some, ◌||◌, ◌==◌}
use Rattle.std.specs.List.{list_any, AllByRecursion}
use Rattle.std.specs.List.Sorted.{IsStrictlySortedBy}
use Rattle.std.proofs.Common.{◌<◌, ◌≢◌, arith}
use Rattle.std.specs.declared.cmp.Ordering.{Ordering}
use Rattle.std.specs.declared.cmp.Ordering.TheVariants.{Less, Equal, Greater}
use Rattle.grid_model.specs.Rows.{with_row}

module _ {X : Type 0} where
  pub is_some-find : (t : X → Bool) (rows : List X) → is_some (find t rows) ≡ list_any t rows
  is_some-find t [] = refl
  is_some-find t (r ∷ rows) = by_first (t r) (is_some-find t rows)
    where
      by_first : (b : Bool) → is_some (find t rows) ≡ list_any t rows → is_some (cond b (Some r) (find t rows)) ≡ (b || list_any t rows)
      by_first true more = refl
      by_first false more = more

  -- where none is found, none passes
  pub none_passes : (t : X → Bool) (rows : List X) → find t rows ≡ None → AllByRecursion (λ r. t r ≡ false) rows
  none_passes t [] e = tt
  none_passes t (r ∷ rows) e = by_first (t r) refl e (none_passes t rows)
    where
      by_first : (b : Bool) → t r ≡ b → cond b (Some r) (find t rows) ≡ None → (find t rows ≡ None → AllByRecursion (λ r. t r ≡ false) rows) → AllByRecursion (λ r. t r ≡ false) (r ∷ rows)
      by_first true is none more = absurd (cc)
      by_first false is none more = (is, more none)

  pub none_is_found : (t : X → Bool) (rows : List X) → AllByRecursion (λ r. t r ≡ false) rows → find t rows ≡ None
  none_is_found t [] all = refl
  none_is_found t (r ∷ rows) all = ap (λ b. cond b (Some r) (find t rows)) all.0 ∙ none_is_found t rows all.1

  -- a test that answers alike on all rows finds the same
  pub find-alike : (s t : X → Bool) (rows : List X) → AllByRecursion (λ r. s r ≡ t r) rows → find s rows ≡ find t rows
  find-alike s t [] all = refl
  find-alike s t (r ∷ rows) all = ap (λ b. cond b (Some r) (find s rows)) all.0 ∙ ap (λ o. cond (t r) (Some r) o) (find-alike s t rows all.1)

  module _ (cmp : X → X → Ordering) where
    -- a row that does not pass is passed over
    pub find-other : (t : X → Bool) (rows : List X) (row : X) → AllByRecursion (λ r. cmp row r ≡ Equal → ⊥) rows → t row ≡ false → find t (with_row cmp rows row) ≡ find t rows
    find-other t [] row new fails = ap (λ b. cond b (Some row) None) fails
    find-other t (r ∷ rows) row new fails =
        elim (cmp row r) as (λ o. cmp row r ≡ o → find t (elim o [ Less ↦ row ∷ r ∷ rows | Equal ↦ row ∷ rows | Greater ↦ r ∷ with_row cmp rows row ]) ≡ find t (r ∷ rows)) [
          | Less ↦ λ e. ap (λ b. cond b (Some row) (find t (r ∷ rows))) fails
          | Equal ↦ λ e. absurd (new.0 e)
          | Greater ↦ λ e. ap (λ o. cond (t r) (Some r) o) (find-other t rows row new.1 fails)
        ] refl

    -- one that passes alone is found
    pub find-new : (t : X → Bool) (rows : List X) (row : X) → AllByRecursion (λ r. t r ≡ false) rows → t row ≡ true → find t (with_row cmp rows row) ≡ Some row
    find-new t [] row none passes = ap (λ b. cond b (Some row) None) passes
    find-new t (r ∷ rows) row none passes =
        elim (cmp row r) as (λ o. find t (elim o [ Less ↦ row ∷ r ∷ rows | Equal ↦ row ∷ rows | Greater ↦ r ∷ with_row cmp rows row ]) ≡ Some row) [
          | Less ↦ ap (λ b. cond b (Some row) (find t (r ∷ rows))) passes
          | Equal ↦ ap (λ b. cond b (Some row) (find t rows)) passes
          | Greater ↦ ap (λ b. cond b (Some r) (find t (with_row cmp rows row))) none.0 ∙ find-new t rows row none.1 passes
        ]

    pub length-new : (rows : List X) (row : X) → AllByRecursion (λ r. cmp row r ≡ Equal → ⊥) rows → length (with_row cmp rows row) ≡ suc (length rows)
    length-new [] row new = refl
    length-new (r ∷ rows) row new =
        elim (cmp row r) as (λ o. cmp row r ≡ o → length {A = X} (elim o [ Less ↦ row ∷ r ∷ rows | Equal ↦ row ∷ rows | Greater ↦ r ∷ with_row cmp rows row ]) ≡ suc (length (r ∷ rows))) [
          | Less ↦ λ e. refl
          | Equal ↦ λ e. absurd (new.0 e)
          | Greater ↦ λ e. ap suc (length-new rows row new.1)
        ] refl

    -- some row passes where one did, or the new one does
    pub any-with_row : (t : X → Bool) (rows : List X) (row : X) → AllByRecursion (λ r. cmp row r ≡ Equal → ⊥) rows → list_any t (with_row cmp rows row) ≡ (t row || list_any t rows)
    any-with_row t [] row new = refl
    any-with_row t (r ∷ rows) row new =
        elim (cmp row r) as (λ o. cmp row r ≡ o → list_any t (elim o [ Less ↦ row ∷ r ∷ rows | Equal ↦ row ∷ rows | Greater ↦ r ∷ with_row cmp rows row ]) ≡ (t row || list_any t (r ∷ rows))) [
          | Less ↦ λ e. refl
          | Equal ↦ λ e. absurd (new.0 e)
          | Greater ↦ λ e. ap (λ b. t r || b) (any-with_row t rows row new.1) ∙ swapped (t r) (t row) (list_any t rows)
        ] refl
      where
        swapped : (a b c : Bool) → (a || (b || c)) ≡ (b || (a || c))
        swapped true true c = refl
        swapped true false c = refl
        swapped false b c = refl

  -- what passes one test and is found by another
  pub found_passes : (s t : X → Bool) (rows : List X) (x : X) → find t rows ≡ Some x → s x ≡ true → list_any s rows ≡ true
  found_passes s t [] x e passes = absurd (cc)
  found_passes s t (r ∷ rows) x e passes = by_first (t r) e (found_passes s t rows x)
    where
      either : (b : Bool) → (b || true) ≡ true
      either true = refl
      either false = refl

      by_first : (b : Bool) → cond b (Some r) (find t rows) ≡ Some x → (find t rows ≡ Some x → s x ≡ true → list_any s rows ≡ true) → (s r || list_any s rows) ≡ true
      by_first true is more = let same : x ≡ r = cc in ap (λ b. b || list_any s rows) (ap s (sym same) ∙ passes)
      by_first false is more = ap (λ b. s r || b) (more is passes) ∙ either (s r)

  -- no row passes
  pub none_any : (t : X → Bool) (rows : List X) → AllByRecursion (λ r. t r ≡ false) rows → list_any t rows ≡ false
  none_any t [] all = refl
  none_any t (r ∷ rows) all = ap (λ b. b || list_any t rows) all.0 ∙ none_any t rows all.1

  -- what is so of all is so of what is found
  pub found_of : (P : X → Type 0) (t : X → Bool) (rows : List X) (x : X) → AllByRecursion P rows → find t rows ≡ Some x → P x
  found_of P t [] x all e = absurd (cc)
  found_of P t (r ∷ rows) x all e = by_first (t r) e (found_of P t rows x all.1)
    where
      by_first : (b : Bool) → cond b (Some r) (find t rows) ≡ Some x → (find t rows ≡ Some x → P x) → P x
      by_first true is more = let same : r ≡ x = cc in subst P same all.0
      by_first false is more = more is

eqb-same : (a : ℕ) → (a == a) ≡ true
eqb-same a = grind arith

eqb-other : (a b : ℕ) → a ≢ b → (a == b) ≡ false
eqb-other a b ne = grind arith

-- a row is the one with its number, where these rise with the keys
pub find-self : {X : Type 0} (cmp : X → X → Ordering) (number : X → ℕ) → ((a b : X) → cmp a b ≡ Less → number a < number b) → (rows : List X) → IsStrictlySortedBy cmp rows
    → AllByRecursion (λ x. find (λ y. number y == number x) rows ≡ Some x) rows
unfolding IsStrictlySortedBy
find-self cmp number rises [] sorted = tt
find-self {X = X} cmp number rises (r ∷ rows) sorted = (
  ap (λ b. cond b (Some r) (find (λ y. number y == number r) rows)) (eqb-same (number r)),
  both rows sorted.0 (find-self cmp number rises rows sorted.1),
)
  where
    both : (xs : List X) → AllByRecursion (λ y. cmp r y ≡ Less) xs → AllByRecursion (λ x. find (λ y. number y == number x) rows ≡ Some x) xs → AllByRecursion (λ x. find (λ y. number y == number x) (r ∷ rows) ≡ Some x) xs
    both [] above same = tt
    both (x ∷ xs) above same =
        let lower : number r < number x = rises r x above.0 in
        let other : number r ≢ number x = λ e. omega (arith, lower, e) in
        (ap (λ b. cond b (Some r) (find (λ y. number y == number x) rows)) (eqb-other (number r) (number x) other) ∙ same.0, both xs above.1 same.1)
