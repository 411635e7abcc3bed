-- Tables: lists of rows whose keys strictly rise.
use Rattle.std.proofs.Common.{◌≡◌, ℕ, zero, suc, ◌<◌, ◌≤◌, Bool, true, false, List, [], ◌∷◌, length, take, drop, slice_index_or, slice_set, slice_index, Some, refl, sym, ap, ◌∙◌, subst, arith, add-one, one-add}
use Rattle.std.specs.Prelude.{insert, map, find, filter, cond, not, ◌+◌, IsTrue}
use Rattle.std.proofs.lemmas.Bool.{false_from_ne_true}
use Rattle.std.specs.List.{AllByRecursion, items_where_true, prefix_len, position_or_len}
use Rattle.std.specs.List.Retain.{IsFiltered}
use Rattle.std.specs.List.Sorted.{IsStrictlySortedBy, IsStrictlyIncreasing}
use Rattle.std.specs.declared.cmp.Ordering.{Ordering}
use Rattle.std.specs.declared.cmp.Ordering.TheVariants.{Less, Equal, Greater}
use Rattle.std.specs.Ordering.{ordering_reverse}
use Rattle.std.specs.Cmp.{IsTotalOrder}
use Rattle.grid_model.specs.Rows.{with_row, IsTable}

pub all-map : {X : Type 0} (P Q : X → Type 0) → ((x : X) → P x → Q x) → (xs : List X) → AllByRecursion P xs → AllByRecursion Q xs
all-map P Q f [] all = tt
all-map P Q f (x ∷ xs) all = (f x all.0, all-map P Q f xs all.1)

pub all-picked : {X : Type 0} (P : X → Type 0) (bs : List Bool) (xs : List X) → AllByRecursion P xs → AllByRecursion P (items_where_true bs xs)
all-picked P [] xs all = tt
all-picked P (b ∷ bs) [] all = tt
all-picked P (true ∷ bs) (x ∷ xs) all = (all.0, all-picked P bs xs all.1)
all-picked P (false ∷ bs) (x ∷ xs) all = all-picked P bs xs all.1

module _ {X : Type 0} (cmp : X → X → Ordering) where
  with_row-less : (r : X) (rows : List X) (row : X) → cmp row r ≡ Less → with_row cmp (r ∷ rows) row ≡ row ∷ r ∷ rows
  with_row-less r rows row e = rw (e, with_row) refl

  with_row-equal : (r : X) (rows : List X) (row : X) → cmp row r ≡ Equal → with_row cmp (r ∷ rows) row ≡ row ∷ rows
  with_row-equal r rows row e = rw (e, with_row) refl

  with_row-greater : (r : X) (rows : List X) (row : X) → cmp row r ≡ Greater → with_row cmp (r ∷ rows) row ≡ r ∷ with_row cmp rows row
  with_row-greater r rows row e = rw (e, with_row) refl

  -- at the row with its key
  pub with_row-at : (rows : List X) (row : X) (i : ℕ) → i < length rows → ((d : X) → cmp row (slice_index_or rows i d) ≡ Equal)
      → ((k : ℕ) → k < i → (d : X) → cmp row (slice_index_or rows k d) ≡ Greater) → with_row cmp rows row ≡ slice_set rows i row
  with_row-at [] row i inside here before = absurd (omega arith)
  with_row-at (r ∷ rows) row zero inside here before = with_row-equal r rows row (here r)
  with_row-at (r ∷ rows) row (suc i) inside here before =
      with_row-greater r rows row (before 0 (omega arith) r)
      ∙ ap (λ (xs : List X). r ∷ xs) (with_row-at rows row i (omega arith) here (λ k below. before (suc k) (omega arith)))

  -- before the rows with greater keys
  pub with_row-before : (rows : List X) (row : X) (i : ℕ) → i ≤ length rows → (i < length rows → (d : X) → cmp row (slice_index_or rows i d) ≡ Less)
      → ((k : ℕ) → k < i → (d : X) → cmp row (slice_index_or rows k d) ≡ Greater) → with_row cmp rows row ≡ insert rows i row
  with_row-before [] row zero inside here before = refl
  with_row-before [] row (suc i) inside here before = absurd (omega arith)
  with_row-before (r ∷ rows) row zero inside here before = with_row-less r rows row (here (omega arith) r)
  with_row-before (r ∷ rows) row (suc i) inside here before =
      with_row-greater r rows row (before 0 (omega arith) r)
      ∙ ap (λ (xs : List X). r ∷ xs) (with_row-before rows row i (omega arith) (λ h. here (omega arith)) (λ k below. before (suc k) (omega arith)))

  -- what holds of the rows and of the new one holds of all
  pub all-with_row : (P : X → Type 0) (rows : List X) (row : X) → AllByRecursion P rows → P row → AllByRecursion P (with_row cmp rows row)
  all-with_row P [] row all new = (new, tt)
  all-with_row P (r ∷ rows) row all new =
      elim (cmp row r) as (λ o. AllByRecursion P (elim o [ Less ↦ row ∷ r ∷ rows | Equal ↦ row ∷ rows | Greater ↦ r ∷ with_row cmp rows row ])) [
        | Less ↦ (new, all)
        | Equal ↦ (new, all.1)
        | Greater ↦ (all.0, all-with_row P rows row all.1 new)
      ]

  module _ (o : IsTotalOrder cmp) where
    below-greater : (r row : X) → cmp row r ≡ Greater → cmp r row ≡ Less
    below-greater r row e = o.antisymm r row ∙ ap ordering_reverse e

    IsStrictlySortedBy-with_row : (rows : List X) (row : X) → IsStrictlySortedBy cmp rows → IsStrictlySortedBy cmp (with_row cmp rows row)
    unfolding IsStrictlySortedBy
    IsStrictlySortedBy-with_row [] row sorted = (tt, tt)
    IsStrictlySortedBy-with_row (r ∷ rows) row sorted =
        elim (cmp row r) as (λ q. cmp row r ≡ q → IsStrictlySortedBy cmp (elim q [ Less ↦ row ∷ r ∷ rows | Equal ↦ row ∷ rows | Greater ↦ r ∷ with_row cmp rows row ])) [
          | Less ↦ λ e. ((e, all-map (λ y. cmp r y ≡ Less) (λ y. cmp row y ≡ Less) (λ y h. o.trans row r y e h) rows sorted.0), sorted)
          | Equal ↦ λ e. (all-map (λ y. cmp r y ≡ Less) (λ y. cmp row y ≡ Less) (λ y h. o.congr row r y e ∙ h) rows sorted.0, sorted.1)
          | Greater ↦ λ e. (all-with_row (λ y. cmp r y ≡ Less) rows row sorted.0 (below-greater r row e), IsStrictlySortedBy-with_row rows row sorted.1)
        ] refl

  -- a row that fits is put into a table
  pub IsTable-with_row : IsTotalOrder cmp → (fits : X → Bool) (rows : List X) (row : X) → IsTrue (fits row) → IsTable cmp fits rows → IsTable cmp fits (with_row cmp rows row)
  IsTable-with_row o fits rows row new table = record {
    ordered = IsStrictlySortedBy-with_row o rows row table.ordered;
    fit = all-with_row (λ r. IsTrue (fits r)) rows row table.fit new;
  }

  IsStrictlySortedBy-picked : (bs : List Bool) (rows : List X) → IsStrictlySortedBy cmp rows → IsStrictlySortedBy cmp (items_where_true bs rows)
  unfolding IsStrictlySortedBy
  IsStrictlySortedBy-picked [] rows sorted = tt
  IsStrictlySortedBy-picked (b ∷ bs) [] sorted = tt
  IsStrictlySortedBy-picked (true ∷ bs) (r ∷ rows) sorted = (all-picked (λ y. cmp r y ≡ Less) bs rows sorted.0, IsStrictlySortedBy-picked bs rows sorted.1)
  IsStrictlySortedBy-picked (false ∷ bs) (r ∷ rows) sorted = IsStrictlySortedBy-picked bs rows sorted.1

  -- what a test keeps is a table
  pub IsTable-kept : (fits : X → Bool) {P : Type 0} (R : P → X → Bool → P → Type 0) (p : P) (rows kept : List X) → IsFiltered R p rows kept
      → IsTable cmp fits rows → IsTable cmp fits kept
  IsTable-kept fits R p rows kept filtered table =
      subst (λ (l : List X). IsTable cmp fits l) (sym filtered.4) (record {
        ordered = IsStrictlySortedBy-picked filtered.0 rows table.ordered;
        fit = all-picked (λ r. IsTrue (fits r)) filtered.0 rows table.fit;
      })

  -- no rows are a table
  pub IsTable-none : (fits : X → Bool) (rows : List X) → rows ≡ [] → IsTable cmp fits rows
  unfolding IsStrictlySortedBy
  IsTable-none fits rows e = subst (λ (l : List X). IsTable cmp fits l) (sym e) (record { ordered = tt; fit = tt })

  -- ids that rise with the keys
  increasing_at : (number : X → ℕ) → ((a b : X) → cmp a b ≡ Less → number a < number b) → (rows : List X) → IsStrictlySortedBy cmp rows
      → (k : ℕ) → suc k < length (map number rows) → slice_index (map number rows) k < slice_index (map number rows) (suc k)
  unfolding IsStrictlySortedBy
  increasing_at number rises [] sorted k inside = absurd (omega arith)
  increasing_at number rises (r ∷ []) sorted k inside = absurd (omega arith)
  increasing_at number rises (r ∷ s ∷ rows) sorted zero inside = rises r s sorted.0.0
  increasing_at number rises (r ∷ s ∷ rows) sorted (suc k) inside = increasing_at number rises (s ∷ rows) sorted.1 k (omega arith)

  pub IsStrictlyIncreasing-map : (number : X → ℕ) → ((a b : X) → cmp a b ≡ Less → number a < number b) → (rows : List X) → IsStrictlySortedBy cmp rows
      → IsStrictlyIncreasing (map number rows)
  IsStrictlyIncreasing-map number rises rows sorted = λ k inside.
      subst (λ i. i < length (map number rows) → slice_index (map number rows) k < slice_index (map number rows) i) (sym (add-one k))
      (increasing_at number rises rows sorted k) inside

-- a row that is found passes
pub find-passes : {X : Type 0} (test : X → Bool) (rows : List X) (r : X) → Some r ≡ find test rows → test r ≡ true
find-passes test [] r e = absurd (cc)
find-passes test (x ∷ rows) r e =
    elim (test x) as (λ b. test x ≡ b → Some r ≡ cond b (Some x) (find test rows) → test r ≡ true) [
      | true ↦ λ passes is. let same : x ≡ r = cc in subst (λ y. test y ≡ true) same passes
      | false ↦ λ fails is. find-passes test rows r is
    ] refl e

-- rows that pass a test and stand next to one another
module _ {X : Type 0} (cmp : X → X → Ordering) (test : X → Bool) (together : (a b c : X) → cmp a b ≡ Less → cmp b c ≡ Less → test a ≡ true → test c ≡ true → test b ≡ true) where
  -- none of them stands behind one that fails
  none_behind : (first next : X) → cmp first next ≡ Less → test first ≡ true → test next ≡ false → (rows : List X) → AllByRecursion (λ r. cmp next r ≡ Less) rows
      → filter test rows ≡ []
  none_behind first next low passes fails [] all = refl
  none_behind first next low passes fails (r ∷ rows) all =
      let this : test r ≡ false = false_from_ne_true (test r) (λ e. let wrong : test next ≡ true = together first next r low all.0 passes e in absurd (cc)) in
      rw this (none_behind first next low passes fails rows all.1)

  from_first : (first : X) → test first ≡ true → (rows : List X) → AllByRecursion (λ r. cmp first r ≡ Less) rows → IsStrictlySortedBy cmp rows
      → filter test rows ≡ take (prefix_len test rows) rows
  unfolding IsStrictlySortedBy
  from_first first passes [] all sorted = refl
  from_first first passes (r ∷ rows) all sorted =
      elim (test r) as (λ b. test r ≡ b → cond b (r ∷ filter test rows) (filter test rows) ≡ take (cond b (1 + prefix_len test rows) 0) (r ∷ rows)) [
        | true ↦ λ e. rw one-add (ap (λ (xs : List X). r ∷ xs) (from_first first passes rows all.1 sorted.1))
        | false ↦ λ e. none_behind first r all.0 passes e rows sorted.0
      ] refl

  -- they are what passes from the first one on
  pub filter-together : (rows : List X) → IsStrictlySortedBy cmp rows
      → filter test rows ≡ take (prefix_len test (drop (position_or_len test rows) rows)) (drop (position_or_len test rows) rows)
  unfolding IsStrictlySortedBy
  filter-together [] sorted = refl
  filter-together (r ∷ rows) sorted =
      elim (test r) as (λ b. test r ≡ b → cond b (r ∷ filter test rows) (filter test rows)
      ≡ take (prefix_len test (drop (cond (not b) (1 + position_or_len test rows) 0) (r ∷ rows))) (drop (cond (not b) (1 + position_or_len test rows) 0) (r ∷ rows))) [
        | true ↦ λ e. rw (e, one-add) (ap (λ (xs : List X). r ∷ xs) (from_first r e rows sorted.0 sorted.1))
        | false ↦ λ e. rw one-add (filter-together rows sorted.1)
      ] refl

  -- so two cuts find them
  pub filter-cut : (self rows rest front : List X) (start count : ℕ) → IsStrictlySortedBy cmp self → rows ≡ self → start ≡ position_or_len test rows
      → rest ≡ drop start rows → count ≡ prefix_len test rest → front ≡ take count rest → front ≡ filter test self
  filter-cut self rows rest front start count sorted whole before cut behind taken =
      let kept : filter test self ≡ take (prefix_len test (drop (position_or_len test self) self)) (drop (position_or_len test self) self) = filter-together self sorted in
      cc
