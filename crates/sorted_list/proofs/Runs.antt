-- Keys that stand next to one another in blocks.
use Rattle.std.proofs.Common.{◌≡◌, ℕ, zero, suc, ◌<◌, ◌≤◌, ◌+◌, ◌-◌, Bool, true, false, List, [], ◌∷◌, ◌++◌, Vec, length, take, drop, slice_index_or, refl, sym, ap, ◌∙◌, subst, arith, append_assoc}
use Rattle.std.specs.Prelude.{filter}
use Rattle.std.specs.List.{AllByRecursion}
use Rattle.std.specs.List.Sorted.{IsStrictlySortedBy}
use Rattle.std.specs.declared.cmp.Ordering.{Ordering}
use Rattle.std.specs.declared.cmp.Ordering.TheVariants.{Less, Equal, Greater}
use Rattle.std.specs.Ordering.{is_eq, ordering_index}
use Rattle.std.proofs.lemmas.List.{take-append-drop, append-nil, get_or-drop}
use Rattle.sorted_list.specs.Blocks.{joined, AreFilled, AreBlocks, in_front, behind, begins, IsWithin, IsCutBy, IsFrontBy}
use Rattle.sorted_list.specs.Fronts.{is_before}
use Rattle.sorted_list.proofs.Cuts.{Passes, Fails, Parted, IsCut, parted_sorted, parted_left, partitioned, passes_before, within_block, cut_here, all_append, all_left, all_map, none_before, cut_place}
use Rattle.sorted_list.proofs.Edits.{joined_parts, within_below}

behind_none : {K Z : Type 0} (bs : List (Vec K Z)) → behind bs 0 0 ≡ joined bs
behind_none [] = refl
behind_none (b ∷ bs) = refl

in_front_is : {K Z : Type 0} (bs : List (Vec K Z)) (m at : ℕ) (block : Vec K Z) → m < length bs → block ≡ slice_index_or bs m block → in_front bs m at ≡ joined (take m bs) ++ take at block.items
in_front_is [] m at block low is = absurd (omega arith)
in_front_is (b ∷ bs) zero at block low is = ap (λ (v : Vec _ _). take at v.items) (sym is)
in_front_is (b ∷ bs) (suc m) at block low is =
    ap (λ l. b.items ++ l) (in_front_is bs m at block (omega arith) is) ∙ sym (append_assoc b.items (joined (take m bs)) (take at block.items))

pub behind_is : {K Z : Type 0} (bs : List (Vec K Z)) (m at next : ℕ) (block : Vec K Z) → m < length bs → block ≡ slice_index_or bs m block → next ≡ suc m
    → behind bs m at ≡ drop at block.items ++ joined (drop next bs)
behind_is {K} {Z} bs m at next block low is e = by bs m low is ∙ ap (λ n. drop at block.items ++ joined (drop n bs)) (sym e)
  where
    by : (bs : List (Vec K Z)) (m : ℕ) → m < length bs → block ≡ slice_index_or bs m block → behind bs m at ≡ drop at block.items ++ joined (drop (suc m) bs)
    by [] m low is = absurd (omega arith)
    by (b ∷ bs) zero low is = ap (λ (v : Vec K Z). drop at v.items ++ joined bs) (sym is)
    by (b ∷ bs) (suc m) low is = by bs m (omega arith) is

module _ {K Z : Type 0} (test : K → Bool) (order : K → K → Ordering) (falls : (a b : K) → order a b ≡ Less → test b ≡ true → test a ≡ true)
    (keys : List K) (bs : List (Vec K Z)) (are : AreBlocks order bs) (sorted : IsStrictlySortedBy order (keys ++ joined bs))
    (count : ℕ) (within : count ≤ length bs) (cut : IsCutBy (λ b. begins test b.items) bs count) where
  parted : Parted test (keys ++ joined bs)
  parted = parted_sorted test order falls (keys ++ joined bs) sorted

  pub run_none : count ≡ 0 → (n : ℕ) → n ≤ length keys → IsCutBy test keys n → (front : List K) → front ≡ take n keys → IsFrontBy test (keys ++ joined bs) (front ++ ([] ++ []))
  run_none none n inside ends front made =
      let later = (none_before test order falls bs are count within cut none).rest in
      let here = cut_here test keys n inside (ends (partitioned test keys (parted_left test keys (joined bs) parted))) in
      let is : front ++ ([] ++ []) ≡ take n keys = append-nil front ∙ made in
      record {
        rest = drop n keys ++ joined bs;
        whole = ap (λ l. l ++ joined bs) (sym (take-append-drop n keys)) ∙ append_assoc (take n keys) (drop n keys) (joined bs) ∙ ap (λ l. l ++ (drop n keys ++ joined bs)) (sym is);
        passes = subst (λ (l : List K). AllByRecursion (Passes test) l) (sym is) here.0;
        fails = all_append (Fails test) (drop n keys) (joined bs) here.1 (subst (λ (l : List K). AllByRecursion (Fails test) l) (behind_none bs) later);
      }

  pub run_some : 0 < count → (whole rest : List (Vec K Z)) → whole ≡ take (count - 1) bs → rest ≡ drop (count - 1) bs → (block : Vec K Z) → block ≡ slice_index_or rest 0 block
      → (last : List K) → last ≡ block.items → (n : ℕ) → n ≤ length last → IsCutBy test last n → (front : List K) → front ≡ take n last
      → IsFrontBy test (keys ++ joined bs) (keys ++ (joined whole ++ front))
  run_some some whole rest first behind_first block is last items n inside ends front made =
      let there : block ≡ slice_index_or bs (count - 1) block =
      is ∙ ap (λ l. slice_index_or l 0 block) behind_first ∙ get_or-drop (count - 1) bs 0 block ∙ ap (λ i. slice_index_or bs i block) (omega arith) in
      let here = subst (λ (l : List K). (n ≤ length l) × IsCutBy test l n) items (inside, ends) in
      let low : count - 1 < length bs = omega arith in
      let parts = cut_place test order falls bs are count within cut some block there n here.0 here.1 in
      let shown : joined whole ++ front ≡ in_front bs (count - 1) n =
      ap (λ l. joined l ++ front) first ∙ ap (λ l. joined (take (count - 1) bs) ++ l) (made ∙ ap (λ l. take n l) items) ∙ sym (in_front_is bs (count - 1) n block low there) in
      record {
        rest = behind bs (count - 1) n;
        whole = ap (λ l. keys ++ l) (joined_parts bs (count - 1) n (within_block bs (count - 1) n low block there here.0)) ∙ sym (append_assoc keys (in_front bs (count - 1) n) (behind bs (count - 1) n)) ∙ ap (λ l. (keys ++ l) ++ behind bs (count - 1) n) (sym shown);
        passes = all_append (Passes test) keys (joined whole ++ front) (passes_before test order falls bs are count within cut some keys parted) (subst (λ (l : List K). AllByRecursion (Passes test) l) (sym shown) parts.before);
        fails = parts.rest;
      }

-- ---- the keys with a front

sorted_behind : {K : Type 0} (order : K → K → Ordering) (a b : List K) → IsStrictlySortedBy order (a ++ b) → IsStrictlySortedBy order b
unfolding IsStrictlySortedBy
sorted_behind order [] b sorted = sorted
sorted_behind order (x ∷ a) b sorted = sorted_behind order a b sorted.1

module _ {K : Type 0} (side : K → Ordering) where
  equal_from : (o : Ordering) → is_before false o ≡ false → is_before true o ≡ true → is_eq o ≡ true
  equal_from Less e f = absurd (cc)
  equal_from Equal e f = refl
  equal_from Greater e f = absurd (cc)

  unequal_before : (o : Ordering) → is_before false o ≡ true → is_eq o ≡ false
  unequal_before Less e = absurd (cc)
  unequal_before Equal e = absurd (cc)
  unequal_before Greater e = refl

  unequal_behind : (o : Ordering) → is_before true o ≡ false → is_eq o ≡ false
  unequal_behind Less e = refl
  unequal_behind Equal e = absurd (cc)
  unequal_behind Greater e = absurd (cc)

  filter_out : (ks rest : List K) → AllByRecursion (λ k. is_eq (side k) ≡ false) ks → filter (λ k. is_eq (side k)) (ks ++ rest) ≡ filter (λ k. is_eq (side k)) rest
  filter_out [] rest none = refl
  filter_out (k ∷ ks) rest none = let not_it = none.0 in rw not_it (filter_out ks rest none.1)

  filter_in : (ks rest : List K) → AllByRecursion (λ k. is_eq (side k) ≡ true) ks → filter (λ k. is_eq (side k)) (ks ++ rest) ≡ ks ++ filter (λ k. is_eq (side k)) rest
  filter_in [] rest all = refl
  filter_in (k ∷ ks) rest all = let it = all.0 in rw it (ap (λ l. k ∷ l) (filter_in ks rest all.1))

  -- a front of the keys that are not before it
  filter_run : (ahead : List K) (all run : List K) → AllByRecursion (λ k. is_before false (side k) ≡ true) ahead → AllByRecursion (λ k. is_before false (side k) ≡ false) all
      → IsFrontBy (λ k. is_before true (side k)) all run → run ≡ filter (λ k. is_eq (side k)) (ahead ++ all)
  filter_run ahead all run before rest front =
      let parts = subst (λ (l : List K). AllByRecursion (λ k. is_before false (side k) ≡ false) l) front.whole rest in
      let equal = all_both (λ k. is_before false (side k) ≡ false) (λ k. is_before true (side k) ≡ true) (λ k. is_eq (side k) ≡ true) (λ k e f. equal_from (side k) e f) run (all_left _ run front.rest parts) front.passes in
      let later = filter_none_in front.rest (all_map (λ k. is_before true (side k) ≡ false) (λ k. is_eq (side k) ≡ false) (λ k e. unequal_behind (side k) e) front.rest front.fails) in
      sym (filter_out ahead all (all_map (λ k. is_before false (side k) ≡ true) (λ k. is_eq (side k) ≡ false) (λ k e. unequal_before (side k) e) ahead before)
      ∙ ap (λ l. filter (λ k. is_eq (side k)) l) front.whole ∙ filter_in run front.rest equal ∙ ap (λ l. run ++ l) later ∙ append-nil run)
    where
      all_both : (P Q R : K → Type 0) → ((k : K) → P k → Q k → R k) → (ks : List K) → AllByRecursion P ks → AllByRecursion Q ks → AllByRecursion R ks
      all_both P Q R f [] one other = tt
      all_both P Q R f (k ∷ ks) one other = (f k one.0 other.0, all_both P Q R f ks one.1 other.1)

      filter_none_in : (ks : List K) → AllByRecursion (λ k. is_eq (side k) ≡ false) ks → filter (λ k. is_eq (side k)) ks ≡ []
      filter_none_in [] none = refl
      filter_none_in (k ∷ ks) none = let not_it = none.0 in rw not_it (filter_none_in ks none.1)

-- blocks behind others
pub blocks_behind : {K Z : Type 0} (order : K → K → Ordering) (bs : List (Vec K Z)) (next : ℕ) → AreBlocks order bs → AreBlocks order (drop next bs)
blocks_behind order bs zero are = are
blocks_behind order [] (suc next) are = are
blocks_behind order (b ∷ bs) (suc next) are = blocks_behind order bs next (record { filled = are.filled.1; sorted = sorted_behind order b.items (joined bs) are.sorted })

module _ {K Z : Type 0} (order : K → K → Ordering) (side : K → Ordering) (bs : List (Vec K Z)) (are : AreBlocks order bs) (n at : ℕ) (within : IsWithin bs n at) where
  pub run_at : (next : ℕ) → next ≡ suc n → (block : Vec K Z) → n < length bs → block ≡ slice_index_or bs n block → (keys : List K) → keys ≡ drop at block.items → (later : List (Vec K Z)) → later ≡ drop next bs
      → (run : List K) → (IsStrictlySortedBy order (keys ++ joined later) → IsFrontBy (λ k. is_before true (side k)) (keys ++ joined later) run)
      → AllByRecursion (λ k. is_before false (side k) ≡ true) (in_front bs n at) → AllByRecursion (λ k. is_before false (side k) ≡ false) (behind bs n at)
      → run ≡ filter (λ k. is_eq (side k)) (joined bs)
  run_at next follows block low is keys here later there run front before rest =
      let all : behind bs n at ≡ keys ++ joined later =
      behind_is bs n at next block low is follows ∙ ap (λ l. l ++ joined (drop next bs)) (sym here) ∙ ap (λ l. keys ++ joined l) (sym there) in
      let parts = joined_parts bs n at within in
      let sorted = subst (λ (l : List K). IsStrictlySortedBy order l) all (sorted_behind order (in_front bs n at) (behind bs n at) (subst (λ (l : List K). IsStrictlySortedBy order l) parts are.sorted)) in
      let shown = subst (λ (l : List K). IsFrontBy (λ k. is_before true (side k)) l run) (sym all) (front sorted) in
      filter_run side (in_front bs n at) (behind bs n at) run before rest shown ∙ ap (λ (l : List K). filter (λ k. is_eq (side k)) l) (sym parts)

  pub run_nowhere : length bs ≤ n → [] ≡ filter (λ k. is_eq (side k)) (joined bs)
  run_nowhere past = by bs within past
    where
      by : (bs : List (Vec K Z)) → IsWithin bs n at → length bs ≤ n → [] ≡ filter (λ k. is_eq (side k)) (joined bs)
      by [] h past = refl
      by (b ∷ bs) h past = absurd (omega (arith, within_below (b ∷ bs) n at h (omega arith)))
