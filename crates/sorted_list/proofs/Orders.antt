-- Keys in order, of which one is put or taken out.
use Rattle.std.proofs.Common.{◌≡◌, ℕ, ◌<◌, ◌≤◌, ◌-◌, suc, Bool, true, false, List, [], ◌∷◌, ◌++◌, Vec, drop, refl, sym, ap, ◌∙◌, subst, arith}
use Rattle.std.specs.Prelude.{filter, not, cond, ◌||◌}
use Rattle.std.specs.List.{AllByRecursion, list_any}
use Rattle.std.specs.List.Sorted.{IsStrictlySortedBy}
use Rattle.std.specs.declared.cmp.Ordering.{Ordering}
use Rattle.std.specs.declared.cmp.Ordering.TheVariants.{Less, Equal, Greater}
use Rattle.std.specs.Ordering.{is_eq, match_ordering, ordering_index, ordering_reverse}
use Rattle.std.specs.Cmp.{IsTotalOrder}
use Rattle.std.specs.BTreeSet.{replace_key}
use Rattle.std.proofs.lemmas.List.Kept.{IsStrictlySortedBy-filter}
use Rattle.sorted_list.specs.Blocks.{joined, AreFilled, AreBlocks, in_front, behind, begins, IsWithin, IsInside}
use Rattle.sorted_list.specs.Fronts.{is_before}
use Rattle.sorted_list.proofs.Cuts.{Passes, Parted, parted_sorted, parted_before, falls_from, all_map, all_append}
use Rattle.sorted_list.proofs.Edits.{joined_parts, last_parts, inside_within, inside_last}

tie_from : (o : Ordering) → is_eq o ≡ true → o ≡ Equal
tie_from Less e = absurd (cc)
tie_from Equal e = refl
tie_from Greater e = absurd (cc)

-- the first key of a list that begins with one that passes
begun : {K : Type 0} (test : K → Bool) (ks : List K) → begins test ks ≡ true → (x : K) × (rest : List K) × (ks ≡ x ∷ rest) × (test x ≡ true)
begun test [] e = absurd (cc)
begun test (k ∷ ks) e = (k, ks, refl, e)

module _ {K : Type 0} (order : K → K → Ordering) where
  -- the keys before a key
  pub below_key : (a : List K) (x : K) (b : List K) → IsStrictlySortedBy order (a ++ x ∷ b) → AllByRecursion (λ y. order y x ≡ Less) a
  unfolding IsStrictlySortedBy
  below_key [] x b sorted = tt
  below_key (y ∷ a) x b sorted = (later a sorted.0, below_key a x b sorted.1)
    where
      later : (a : List K) → AllByRecursion (λ z. order y z ≡ Less) (a ++ x ∷ b) → order y x ≡ Less
      later [] all = all.0
      later (z ∷ a) all = later a all.1

  pub above_key : (a : List K) (x : K) (b : List K) → IsStrictlySortedBy order (a ++ x ∷ b) → AllByRecursion (λ y. order x y ≡ Less) b
  unfolding IsStrictlySortedBy
  above_key [] x b sorted = sorted.0
  above_key (y ∷ a) x b sorted = above_key a x b sorted.1

  module _ (total : IsTotalOrder order) where
    turned : (x y : K) → order y x ≡ Less → order x y ≡ Greater
    turned x y less = total.antisymm x y ∙ ap ordering_reverse less

    -- a key in the place of one that it ties with
    replace_at : (a : List K) (x key : K) (b : List K) → AllByRecursion (λ y. order y x ≡ Less) a → order key x ≡ Equal → replace_key order (a ++ x ∷ b) key ≡ a ++ key ∷ b
    replace_at [] x key b below same = rw same refl
    replace_at (y ∷ a) x key b below same =
        let above : order key y ≡ Greater = total.congr key x y same ∙ turned x y below.0 in
        rw above (ap (λ l. y ∷ l) (replace_at a x key b below.1 same))

    -- or between others
    replace_between : (a : List K) (key : K) (b : List K) → AllByRecursion (λ y. order key y ≡ Greater) a → AllByRecursion (λ y. order key y ≡ Less) b
        → replace_key order (a ++ b) key ≡ a ++ key ∷ b
    replace_between [] key [] above below = refl
    replace_between [] key (y ∷ b) above below = let less = below.0 in rw less refl
    replace_between (y ∷ a) key b above below = let greater = above.0 in rw greater (ap (λ l. y ∷ l) (replace_between a key b above.1 below))

    all_replace : (P : K → Type 0) (ks : List K) (key : K) → AllByRecursion P ks → P key → AllByRecursion P (replace_key order ks key)
    all_replace P [] key all new = (new, tt)
    all_replace P (k ∷ ks) key all new = by (order key k) (all_replace P ks key all.1 new)
      where
        by : (o : Ordering) → AllByRecursion P (replace_key order ks key) → AllByRecursion P (match_ordering o (key ∷ k ∷ ks) (key ∷ ks) (k ∷ replace_key order ks key))
        by Less later = (new, all)
        by Equal later = (new, all.1)
        by Greater later = (all.0, later)

    pub sorted_replace : (ks : List K) (key : K) → IsStrictlySortedBy order ks → IsStrictlySortedBy order (replace_key order ks key)
    unfolding IsStrictlySortedBy
    sorted_replace [] key sorted = (tt, tt)
    sorted_replace (k ∷ ks) key sorted = by (order key k) refl (sorted_replace ks key sorted.1)
      where
        by : (o : Ordering) → order key k ≡ o → IsStrictlySortedBy order (replace_key order ks key) → IsStrictlySortedBy order (match_ordering o (key ∷ k ∷ ks) (key ∷ ks) (k ∷ replace_key order ks key))
        by Less e later = ((e, all_map (λ y. order k y ≡ Less) (λ y. order key y ≡ Less) (λ y h. total.trans key k y e h) ks sorted.0), sorted)
        by Equal e later = (all_map (λ y. order k y ≡ Less) (λ y. order key y ≡ Less) (λ y h. total.congr key k y e ∙ h) ks sorted.0, sorted.1)
        by Greater e later = (all_replace (λ y. order k y ≡ Less) ks key sorted.0 (total.antisymm k key ∙ ap ordering_reverse e), later)

-- ---- keys that a test passes or fails

any_at : {K : Type 0} (test : K → Bool) (a : List K) (x : K) (b : List K) → test x ≡ true → list_any test (a ++ x ∷ b) ≡ true
any_at test [] x b e = rw e refl
any_at test (y ∷ a) x b e = by (test y) (any_at test a x b e)
  where
    by : (t : Bool) → list_any test (a ++ x ∷ b) ≡ true → (t || list_any test (a ++ x ∷ b)) ≡ true
    by true later = refl
    by false later = later

any_none : {K : Type 0} (test : K → Bool) (ks : List K) → AllByRecursion (λ k. test k ≡ false) ks → list_any test ks ≡ false
any_none test [] none = refl
any_none test (k ∷ ks) none = let no = none.0 in rw no (any_none test ks none.1)

pub filter_none : {K : Type 0} (test : K → Bool) (ks : List K) → AllByRecursion (λ k. test k ≡ false) ks → filter (λ k. not (test k)) ks ≡ ks
filter_none test [] none = refl
filter_none test (k ∷ ks) none = let no = none.0 in rw no (ap (λ l. k ∷ l) (filter_none test ks none.1))

filter_at : {K : Type 0} (test : K → Bool) (a : List K) (x : K) (b : List K) → AllByRecursion (λ k. test k ≡ false) a → test x ≡ true → AllByRecursion (λ k. test k ≡ false) b
    → filter (λ k. not (test k)) (a ++ x ∷ b) ≡ a ++ b
filter_at test [] x b before e rest = rw e (filter_none test b rest)
filter_at test (y ∷ a) x b before e rest = let no = before.0 in rw no (ap (λ l. y ∷ l) (filter_at test a x b before.1 e rest))

apart : {K : Type 0} (side : K → Ordering) (o : Ordering) → is_eq o ≡ false → (ks : List K) → AllByRecursion (λ k. side k ≡ o) ks → AllByRecursion (λ k. is_eq (side k) ≡ false) ks
apart side o other ks all = all_map (λ k. side k ≡ o) (λ k. is_eq (side k) ≡ false) (λ k is. ap is_eq is ∙ other) ks all

-- ---- blocks

module _ {K Z : Type 0} (order : K → K → Ordering) (bs : List (Vec K Z)) (n at : ℕ) (are : AreBlocks order bs) where
  -- What a key that is put makes of the keys.
  pub record IsPut (key : K) (ks : List K) (was : Bool) : Type 0 where
    pub keys : ks ≡ replace_key order (joined bs) key
    pub sorted : IsStrictlySortedBy order ks
    pub tied : list_any (λ k. is_eq (order key k)) (joined bs) ≡ was

  pub put_over : IsTotalOrder order → (key : K) → IsInside bs n at → begins (λ k. is_eq (order key k)) (behind bs n at) ≡ true
      → (ks : List K) → ks ≡ in_front bs n at ++ key ∷ drop 1 (behind bs n at) → IsPut key ks true
  put_over total key inside found ks made =
      let first = begun (λ k. is_eq (order key k)) (behind bs n at) found in
      let all : joined bs ≡ in_front bs n at ++ first.0 ∷ first.1 = joined_parts bs n at (inside_within bs n at inside) ∙ ap (λ l. in_front bs n at ++ l) first.2 in
      let sorted = subst (λ (l : List K). IsStrictlySortedBy order l) all are.sorted in
      let below = below_key order (in_front bs n at) first.0 first.1 sorted in
      let keys : ks ≡ replace_key order (joined bs) key =
      made ∙ ap (λ l. in_front bs n at ++ key ∷ drop 1 l) first.2 ∙ sym (replace_at order total (in_front bs n at) first.0 key first.1 below (tie_from _ first.3))
      ∙ ap (λ (l : List K). replace_key order l key) (sym all) in
      record {
        keys = keys;
        sorted = subst (λ (l : List K). IsStrictlySortedBy order l) (sym keys) (sorted_replace order total (joined bs) key are.sorted);
        tied = ap (λ (l : List K). list_any (λ k. is_eq (order key k)) l) all ∙ any_at (λ k. is_eq (order key k)) (in_front bs n at) first.0 first.1 first.3;
      }

  pub put_between : IsTotalOrder order → (key : K) → IsWithin bs n at → AllByRecursion (λ k. order key k ≡ Greater) (in_front bs n at) → AllByRecursion (λ k. order key k ≡ Less) (behind bs n at)
      → (ks : List K) → ks ≡ in_front bs n at ++ key ∷ behind bs n at → IsPut key ks false
  put_between total key within above below ks made =
      let all = joined_parts bs n at within in
      let keys : ks ≡ replace_key order (joined bs) key =
      made ∙ sym (replace_between order total (in_front bs n at) key (behind bs n at) above below) ∙ ap (λ (l : List K). replace_key order l key) (sym all) in
      record {
        keys = keys;
        sorted = subst (λ (l : List K). IsStrictlySortedBy order l) (sym keys) (sorted_replace order total (joined bs) key are.sorted);
        tied = ap (λ (l : List K). list_any (λ k. is_eq (order key k)) l) all
            ∙ any_none (λ k. is_eq (order key k)) (in_front bs n at ++ behind bs n at)
            (all_append (λ k. is_eq (order key k) ≡ false) (in_front bs n at) (behind bs n at) (apart (order key) Greater refl (in_front bs n at) above) (apart (order key) Less refl (behind bs n at) below));
      }

  module _ (side : K → Ordering) where
    -- a key that is taken out leaves those that have not its front
    pub taken : ((a b : K) → order a b ≡ Less → side a ≡ Equal → side b ≡ Less) → IsInside bs n at → begins (λ k. is_eq (side k)) (behind bs n at) ≡ true
        → (ks : List K) → ks ≡ in_front bs n at ++ drop 1 (behind bs n at) → (ks ≡ filter (λ k. not (is_eq (side k))) (joined bs)) × IsStrictlySortedBy order ks
    taken once inside found ks made =
        let first = begun (λ k. is_eq (side k)) (behind bs n at) found in
        let all : joined bs ≡ in_front bs n at ++ first.0 ∷ first.1 = joined_parts bs n at (inside_within bs n at inside) ∙ ap (λ l. in_front bs n at ++ l) first.2 in
        let sorted = subst (λ (l : List K). IsStrictlySortedBy order l) all are.sorted in
        let here : side first.0 ≡ Equal = tie_from _ first.3 in
        let before = all_map (λ y. order y first.0 ≡ Less) (λ y. is_eq (side y) ≡ false) (λ y less. untied y first.0 less here (side y) refl) (in_front bs n at) (below_key order (in_front bs n at) first.0 first.1 sorted) in
        let rest = all_map (λ y. order first.0 y ≡ Less) (λ y. is_eq (side y) ≡ false) (λ y less. ap is_eq (once first.0 y less here)) first.1 (above_key order (in_front bs n at) first.0 first.1 sorted) in
        let keys : ks ≡ filter (λ k. not (is_eq (side k))) (joined bs) =
        made ∙ ap (λ l. in_front bs n at ++ drop 1 l) first.2 ∙ sym (filter_at (λ k. is_eq (side k)) (in_front bs n at) first.0 first.1 before first.3 rest)
        ∙ ap (λ (l : List K). filter (λ k. not (is_eq (side k))) l) (sym all) in
        (keys, subst (λ (l : List K). IsStrictlySortedBy order l) (sym keys) (IsStrictlySortedBy-filter order (λ k. not (is_eq (side k))) (joined bs) are.sorted))
      where
        untied : (y x : K) → order y x ≡ Less → side x ≡ Equal → (o : Ordering) → side y ≡ o → is_eq (side y) ≡ false
        untied y x less here Less e = ap is_eq e
        untied y x less here Equal e = let low = once y x less e in absurd (cc (low, here))
        untied y x less here Greater e = ap is_eq e

    -- where none has it, all stay
    pub untaken : IsWithin bs n at → AllByRecursion (λ k. side k ≡ Greater) (in_front bs n at) → AllByRecursion (λ k. side k ≡ Less) (behind bs n at)
        → joined bs ≡ filter (λ k. not (is_eq (side k))) (joined bs)
    untaken within above below =
        let all = joined_parts bs n at within in
        sym (filter_none (λ k. is_eq (side k)) (joined bs) (subst (λ (l : List K). AllByRecursion (λ k. is_eq (side k) ≡ false) l) (sym all)
        (all_append (λ k. is_eq (side k) ≡ false) (in_front bs n at) (behind bs n at) (apart side Greater refl (in_front bs n at) above) (apart side Less refl (behind bs n at) below))))

    module _ (falls : (a b : K) → order a b ≡ Less → ordering_index (side b) ≤ ordering_index (side a)) where
      greater_from : (o : Ordering) → is_before true o ≡ true → is_eq o ≡ false → o ≡ Greater
      greater_from Less e none = absurd (cc)
      greater_from Equal e none = absurd (cc)
      greater_from Greater e none = refl

      passed : (o : Ordering) → is_before false o ≡ true → o ≡ Greater
      passed Less e = absurd (cc)
      passed Equal e = absurd (cc)
      passed Greater e = refl

      failed : (o : Ordering) → is_before true o ≡ false → o ≡ Less
      failed Less e = refl
      failed Equal e = absurd (cc)
      failed Greater e = absurd (cc)

      -- where the last key in front of a place has not the front, none has
      pub absent_before : IsInside bs n (at - 1) → 0 < at → AllByRecursion (λ k. is_before true (side k) ≡ true) (in_front bs n at) → begins (λ k. is_eq (side k)) (behind bs n (at - 1)) ≡ false
          → AllByRecursion (λ k. side k ≡ Greater) (in_front bs n at)
      absent_before inside some passes none =
          let e : suc (at - 1) ≡ at = omega arith in
          let last = last_parts bs n (at - 1) inside in
          let front : in_front bs n at ≡ in_front bs n (at - 1) ++ last.0 ∷ [] = ap (λ i. in_front bs n i) (sym e) ∙ last.1 in
          let all : joined bs ≡ in_front bs n (at - 1) ++ last.0 ∷ behind bs n (suc (at - 1)) = joined_parts bs n (at - 1) (inside_within bs n (at - 1) inside) ∙ ap (λ l. in_front bs n (at - 1) ++ l) last.2 in
          let here : side last.0 ≡ Greater =
          greater_from (side last.0) (last_of (in_front bs n (at - 1)) last.0 (subst (λ (l : List K). AllByRecursion (λ k. is_before true (side k) ≡ true) l) front passes))
          (sym (ap (λ (l : List K). begins (λ k. is_eq (side k)) l) last.2) ∙ none) in
          let test : K → Bool = λ k. is_before false (side k) in
          let parted = subst (λ (l : List K). Parted test l) all (parted_sorted test order (falls_from order side falls false) (joined bs) are.sorted) in
          let before = parted_before test (in_front bs n (at - 1)) last.0 (behind bs n (suc (at - 1))) parted (ap (is_before false) here) in
          subst (λ (l : List K). AllByRecursion (λ k. side k ≡ Greater) l) (sym front)
          (all_append (λ k. side k ≡ Greater) (in_front bs n (at - 1)) (last.0 ∷ []) (all_map (Passes test) (λ k. side k ≡ Greater) (λ k is. passed (side k) is) (in_front bs n (at - 1)) before) (here, tt))
        where
          last_of : (a : List K) (x : K) → AllByRecursion (λ k. is_before true (side k) ≡ true) (a ++ x ∷ []) → is_before true (side x) ≡ true
          last_of [] x all = all.0
          last_of (y ∷ a) x all = last_of a x all.1

      pub absent_behind : AllByRecursion (λ k. is_before true (side k) ≡ false) (behind bs n at) → AllByRecursion (λ k. side k ≡ Less) (behind bs n at)
      absent_behind fails = all_map (λ k. is_before true (side k) ≡ false) (λ k. side k ≡ Less) (λ k e. failed (side k) e) (behind bs n at) fails

pub no_blocks : {K Z : Type 0} (order : K → K → Ordering) (bs : List (Vec K Z)) → bs ≡ [] → AreBlocks order bs
unfolding IsStrictlySortedBy
no_blocks {K} {Z} order bs none = subst (λ (l : List (Vec K Z)). AreBlocks order l) (sym none) (record { filled = tt; sorted = tt })
