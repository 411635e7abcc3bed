-- Rows that stand next to one another: two binary searches find where they begin and how many they are.
use Rattle.std.proofs.Common.{◌≡◌, ◌==◌, ℕ, zero, suc, ◌<◌, ◌≤◌, ◌+◌, Bool, true, false, cond, List, [], ◌∷◌, length, take, drop, slice_index_or, refl, sym, ap, ◌∙◌, subst, arith, eqb-true}
use Rattle.std.specs.Prelude.{filter}
use Rattle.std.specs.List.Sorted.{IsStrictlySortedBy, IsPartitionedBy, IsPartitionPoint}
use Rattle.std.specs.declared.cmp.Ordering.{Ordering}
use Rattle.std.specs.declared.cmp.Ordering.TheVariants.{Less, Equal, Greater}
use Rattle.std.specs.Ordering.{is_eq, is_gt, ordering_index}
use Rattle.std.proofs.lemmas.Bool.{eqb-false}
use Rattle.std.proofs.lemmas.List.{length-drop, get_or-drop}
use Rattle.grid_tables.specs.Places.{Falls}
use Rattle.grid_tables.proofs.Searching.{later_above}

module _ {X : Type 0} (side : X → Ordering) where
  pub falls_sorted : (cmp : X → X → Ordering) → ((a b : X) → cmp a b ≡ Less → ordering_index (side b) ≤ ordering_index (side a)) → (rows : List X) → IsStrictlySortedBy cmp rows → Falls side rows
  falls_sorted cmp falls rows sorted i j d low inside =
      elim (i == j) as (λ b. (i == j) ≡ b → ordering_index (side (slice_index_or rows j d)) ≤ ordering_index (side (slice_index_or rows i d))) [
        | true ↦ λ e. let same : i ≡ j = omega (arith, eqb-true i j e) in rw same (omega arith)
        | false ↦ λ e. let apart : i < j = omega (arith, eqb-false i j e) in falls _ _ (later_above cmp rows sorted i j d apart inside)
      ] refl

  pub falls_drop : (rows : List X) (n : ℕ) → Falls side rows → Falls side (drop n rows)
  falls_drop rows n falls i j d low inside =
      rw (get_or-drop n rows i d, get_or-drop n rows j d) (falls (n + i) (n + j) d (omega arith) (omega (arith, inside, length-drop n rows)))

  lower_greater : (a b : Ordering) → ordering_index b ≤ ordering_index a → is_gt b ≡ true → is_gt a ≡ true
  lower_greater a Less h e = absurd (cc)
  lower_greater a Equal h e = absurd (cc)
  lower_greater Less Greater h e = absurd (omega arith)
  lower_greater Equal Greater h e = absurd (omega arith)
  lower_greater Greater Greater h e = refl

  pub parted_greater : (rows : List X) → Falls side rows → IsPartitionedBy (λ r. is_gt (side r)) rows
  parted_greater rows falls i j d low inside e = lower_greater _ _ (falls i j d low inside) e

  lower_equal : (a b : Ordering) → ordering_index b ≤ ordering_index a → (is_gt a ≡ true → ⊥) → is_eq b ≡ true → is_eq a ≡ true
  lower_equal a Less h none e = absurd (cc)
  lower_equal a Greater h none e = absurd (cc)
  lower_equal Less Equal h none e = absurd (omega arith)
  lower_equal Equal Equal h none e = refl
  lower_equal Greater Equal h none e = absurd (none refl)

  pub parted_equal : (rows : List X) → Falls side rows → ((k : ℕ) (d : X) → k < length rows → is_gt (side (slice_index_or rows k d)) ≡ false) → IsPartitionedBy (λ r. is_eq (side r)) rows
  parted_equal rows falls none i j d low inside e =
      lower_equal _ _ (falls i j d low inside) (λ greater. let no = none i d (omega arith) in absurd (cc (no, greater))) e

  none_here : (rows : List X) → ((k : ℕ) (d : X) → k < length rows → is_eq (side (slice_index_or rows k d)) ≡ false) → filter (λ r. is_eq (side r)) rows ≡ []
  none_here [] none = refl
  none_here (r ∷ rows) none =
      let first : is_eq (side r) ≡ false = none 0 r (omega arith) in
      rw first (none_here rows (λ k d h. none (suc k) d (omega arith)))

  first_here : (rows : List X) (count : ℕ) → count ≤ length rows → IsPartitionPoint (λ r. is_eq (side r) ≡ true) (λ r. is_eq (side r) ≡ false) rows count → filter (λ r. is_eq (side r)) rows ≡ take count rows
  first_here rows zero inside parts = none_here rows (λ k d h. parts.1 k d (omega arith) h)
  first_here [] (suc count) inside parts = absurd (omega arith)
  first_here (r ∷ rows) (suc count) inside parts =
      let first : is_eq (side r) ≡ true = parts.0 0 r (omega arith) (omega arith) in
      rw first (ap (λ (l : List X). r ∷ l) (first_here rows count (omega arith) (λ k d low high. parts.0 (suc k) d (omega arith) (omega arith), λ k d low high. parts.1 (suc k) d (omega arith) (omega arith))))

  not_equal : (a : Ordering) → is_gt a ≡ true → is_eq a ≡ false
  not_equal Less e = refl
  not_equal Equal e = absurd (cc)
  not_equal Greater e = refl

  -- they are so many from there on
  pub run_found : (rows : List X) (start count : ℕ) → start ≤ length rows → IsPartitionPoint (λ r. is_gt (side r) ≡ true) (λ r. is_gt (side r) ≡ false) rows start
      → count ≤ length (drop start rows) → IsPartitionPoint (λ r. is_eq (side r) ≡ true) (λ r. is_eq (side r) ≡ false) (drop start rows) count
      → filter (λ r. is_eq (side r)) rows ≡ take count (drop start rows)
  run_found rows zero count inside front within parts = first_here rows count within parts
  run_found [] (suc start) count inside front within parts = absurd (omega arith)
  run_found (r ∷ rows) (suc start) count inside front within parts =
      let first : is_eq (side r) ≡ false = not_equal (side r) (front.0 0 r (omega arith) (omega arith)) in
      rw first (run_found rows start count (omega arith) (λ k d low high. front.0 (suc k) d (omega arith) (omega arith), λ k d low high. front.1 (suc k) d (omega arith) (omega arith)) within parts)

  pub none_greater : (rows : List X) (start : ℕ) → IsPartitionPoint (λ r. is_gt (side r) ≡ true) (λ r. is_gt (side r) ≡ false) rows start
      → (k : ℕ) (d : X) → k < length (drop start rows) → is_gt (side (slice_index_or (drop start rows) k d)) ≡ false
  none_greater rows start parts k d inside = rw (get_or-drop start rows k d) (parts.1 (start + k) d (omega arith) (omega (arith, inside, length-drop start rows)))

  module _ (is : X → Bool) (belongs : (r : X) → is r ≡ is_eq (side r)) where
    pub alike : (rows : List X) → filter is rows ≡ filter (λ r. is_eq (side r)) rows
    alike [] = refl
    alike (r ∷ rows) = ap (λ b. cond b (r ∷ filter is rows) (filter is rows)) (belongs r) ∙ ap (λ (l : List X). cond (is_eq (side r)) (r ∷ l) l) (alike rows)

    -- so two cuts find them
    pub run_cut : (rows rest front : List X) (start count : ℕ) → Falls side rows → start ≤ length rows
        → (Falls side rows → IsPartitionPoint (λ r. is_gt (side r) ≡ true) (λ r. is_gt (side r) ≡ false) rows start) → rest ≡ drop start rows → count ≤ length rest
        → (IsPartitionedBy (λ r. is_eq (side r)) rest → IsPartitionPoint (λ r. is_eq (side r) ≡ true) (λ r. is_eq (side r) ≡ false) rest count) → front ≡ take count rest
        → front ≡ filter is rows
    run_cut rows rest front start count falls inside begins cut within ends taken =
        let first = begins falls in
        let parted = parted_equal (drop start rows) (falls_drop rows start falls) (none_greater rows start first) in
        let last = subst (λ (l : List X). (count ≤ length l) × (IsPartitionedBy (λ r. is_eq (side r)) l → IsPartitionPoint (λ r. is_eq (side r) ≡ true) (λ r. is_eq (side r) ≡ false) l count)) cut (within, ends) in
        taken ∙ ap (λ (l : List X). take count l) cut ∙ sym (run_found rows start count inside first last.0 (last.1 parted)) ∙ sym (alike rows)
