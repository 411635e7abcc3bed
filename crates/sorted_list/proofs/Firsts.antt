-- The first key with a front.
use Rattle.std.proofs.Common.{◌≡◌, ℕ, zero, suc, ◌<◌, ◌≤◌, Bool, true, false, List, [], ◌∷◌, ◌++◌, Vec, Option, Some, None, length, drop, slice_index_or, refl, sym, ap, ◌∙◌, subst, arith}
use Rattle.std.specs.Prelude.{find, slice_get}
use Rattle.std.specs.List.{AllByRecursion}
use Rattle.std.specs.List.Sorted.{IsStrictlySortedBy}
use Rattle.std.specs.declared.cmp.Ordering.{Ordering}
use Rattle.std.specs.declared.cmp.Ordering.TheVariants.{Less, Equal, Greater}
use Rattle.std.specs.Ordering.{is_eq, ordering_index}
use Rattle.sorted_list.specs.Blocks.{joined, AreBlocks, in_front, behind, IsWithin}
use Rattle.sorted_list.specs.Fronts.{is_before}
use Rattle.sorted_list.proofs.Cuts.{Parted, parted_sorted, parted_right, falls_from}
use Rattle.sorted_list.proofs.Edits.{joined_parts, within_below}
use Rattle.sorted_list.proofs.Runs.{behind_is}

-- ---- the first key behind a place

first_dropped : {K : Type 0} (xs : List K) (at : ℕ) (rest : List K) (key : K) → at < length xs → key ≡ slice_index_or xs at key → Some key ≡ slice_get (drop at xs ++ rest) 0
first_dropped [] at rest key low is = absurd (omega arith)
first_dropped (x ∷ xs) zero rest key low is = ap Some is
first_dropped (x ∷ xs) (suc at) rest key low is = first_dropped xs at rest key (omega arith) is

all_dropped : {K : Type 0} (xs : List K) (at : ℕ) (rest : List K) → length xs ≤ at → drop at xs ++ rest ≡ rest
all_dropped [] zero rest past = refl
all_dropped [] (suc at) rest past = refl
all_dropped (x ∷ xs) zero rest past = absurd (omega arith)
all_dropped (x ∷ xs) (suc at) rest past = all_dropped xs at rest (omega arith)

module _ {K Z : Type 0} (bs : List (Vec K Z)) (n at next : ℕ) (follows : next ≡ suc n) where
  module _ (block : Vec K Z) (low : n < length bs) (is : block ≡ slice_index_or bs n block) (keys : List K) (here : keys ≡ block.items) where
    parts : behind bs n at ≡ drop at keys ++ joined (drop next bs)
    parts = behind_is bs n at next block low is follows ∙ ap (λ l. drop at l ++ joined (drop next bs)) (sym here)

    pub first_here : (key : K) → at < length keys → key ≡ slice_index_or keys at key → Some key ≡ slice_get (behind bs n at) 0
    first_here key inside there = first_dropped keys at (joined (drop next bs)) key inside there ∙ ap (λ l. slice_get l 0) (sym parts)

    pub first_later : length keys ≤ at → (first : Option K) → first ≡ slice_get (joined (drop next bs)) 0 → first ≡ slice_get (behind bs n at) 0
    first_later past first found = found ∙ ap (λ l. slice_get l 0) (sym (all_dropped keys at (joined (drop next bs)) past) ∙ sym parts)

pub first_nowhere : {K Z : Type 0} (bs : List (Vec K Z)) (n at : ℕ) → IsWithin bs n at → length bs ≤ n → None ≡ slice_get (behind bs n at) 0
first_nowhere [] n at within past = refl
first_nowhere (b ∷ bs) n at within past = absurd (omega (arith, within_below (b ∷ bs) n at within (omega arith)))

-- ---- whether it has the front

module _ {K : Type 0} (order : K → K → Ordering) (side : K → Ordering) (falls : (a b : K) → order a b ≡ Less → ordering_index (side b) ≤ ordering_index (side a)) where
  greater_so : (o : Ordering) → is_before false o ≡ true → is_eq o ≡ false
  greater_so Less e = absurd (cc)
  greater_so Equal e = absurd (cc)
  greater_so Greater e = refl

  less_so : (o : Ordering) → is_before true o ≡ false → is_eq o ≡ false
  less_so Less e = refl
  less_so Equal e = absurd (cc)
  less_so Greater e = absurd (cc)

  less_from : (o : Ordering) → is_before false o ≡ false → is_eq o ≡ false → is_before true o ≡ false
  less_from Less e f = refl
  less_from Equal e f = absurd (cc)
  less_from Greater e f = absurd (cc)

  found_behind : (a b : List K) → AllByRecursion (λ k. is_before false (side k) ≡ true) a → find (λ k. is_eq (side k)) (a ++ b) ≡ find (λ k. is_eq (side k)) b
  found_behind [] b before = refl
  found_behind (k ∷ a) b before = let other = greater_so (side k) before.0 in rw other (found_behind a b before.1)

  none_less : (ks : List K) → AllByRecursion (λ k. is_before true (side k) ≡ false) ks → find (λ k. is_eq (side k)) ks ≡ None
  none_less [] all = refl
  none_less (k ∷ ks) all = let other = less_so (side k) all.0 in rw other (none_less ks all.1)

  at_first : (ks : List K) (key : K) → Some key ≡ slice_get ks 0 → is_eq (side key) ≡ true → Some key ≡ find (λ k. is_eq (side k)) ks
  at_first [] key first e = absurd (cc)
  at_first (k ∷ ks) key first e =
      let same : key ≡ k = cc in
      let here : is_eq (side k) ≡ true = ap (λ q. is_eq (side q)) (sym same) ∙ e in
      rw here first

  past_first : (ks : List K) (key : K) → Parted (λ k. is_before true (side k)) ks → Some key ≡ slice_get ks 0 → is_before true (side key) ≡ false → None ≡ find (λ k. is_eq (side k)) ks
  past_first [] key parted first e = refl
  past_first (k ∷ ks) key parted first e =
      let same : key ≡ k = cc in
      let here : is_before true (side k) ≡ false = ap (λ q. is_before true (side q)) (sym same) ∙ e in
      sym (none_less (k ∷ ks) (here, parted.0 here))

  fails_first : (ks : List K) (key : K) → AllByRecursion (λ k. is_before false (side k) ≡ false) ks → Some key ≡ slice_get ks 0 → is_before false (side key) ≡ false
  fails_first [] key all first = absurd (cc)
  fails_first (k ∷ ks) key all first = let same : key ≡ k = cc in ap (λ q. is_before false (side q)) same ∙ all.0

  module _ {Z : Type 0} (bs : List (Vec K Z)) (are : AreBlocks order bs) (n at : ℕ) (within : IsWithin bs n at)
      (before : AllByRecursion (λ k. is_before false (side k) ≡ true) (in_front bs n at)) (rest : AllByRecursion (λ k. is_before false (side k) ≡ false) (behind bs n at)) where
    all : joined bs ≡ in_front bs n at ++ behind bs n at
    all = joined_parts bs n at within

    shown : find (λ k. is_eq (side k)) (joined bs) ≡ find (λ k. is_eq (side k)) (behind bs n at)
    shown = ap (λ l. find (λ k. is_eq (side k)) l) all ∙ found_behind (in_front bs n at) (behind bs n at) before

    pub found_key : (key : K) → Some key ≡ slice_get (behind bs n at) 0 → is_eq (side key) ≡ true → Some key ≡ find (λ k. is_eq (side k)) (joined bs)
    found_key key first e = at_first (behind bs n at) key first e ∙ sym shown

    pub other_key : (key : K) → Some key ≡ slice_get (behind bs n at) 0 → is_eq (side key) ≡ false → None ≡ find (λ k. is_eq (side k)) (joined bs)
    other_key key first e =
        let test : K → Bool = λ k. is_before true (side k) in
        let parted = subst (λ (l : List K). Parted test l) all (parted_sorted test order (falls_from order side falls true) (joined bs) are.sorted) in
        past_first (behind bs n at) key (parted_right test (in_front bs n at) (behind bs n at) parted) first
        (less_from (side key) (fails_first (behind bs n at) key rest first) e) ∙ sym shown

    pub no_key : None ≡ slice_get (behind bs n at) 0 → None ≡ find (λ k. is_eq (side k)) (joined bs)
    no_key first = by (behind bs n at) first ∙ sym shown
      where
        by : (ks : List K) → None ≡ slice_get ks 0 → None ≡ find (λ k. is_eq (side k)) ks
        by [] e = refl
        by (k ∷ ks) e = absurd (cc)
