-- Where blocks of keys in order are cut.
use Rattle.std.proofs.Common.{◌≡◌, ℕ, zero, suc, ◌<◌, ◌≤◌, ◌+◌, ◌-◌, Bool, true, false, List, [], ◌∷◌, ◌++◌, Vec, length, take, drop, slice_index_or, refl, sym, ap, ◌∙◌, subst, arith}
use Rattle.std.specs.List.{AllByRecursion}
use Rattle.std.specs.List.Sorted.{IsStrictlySortedBy, IsPartitionedBy, IsPartitionPoint}
use Rattle.std.specs.declared.cmp.Ordering.{Ordering}
use Rattle.std.specs.declared.cmp.Ordering.TheVariants.{Less, Equal, Greater}
use Rattle.std.specs.Ordering.{ordering_index}
use Rattle.sorted_list.specs.Blocks.{joined, AreFilled, AreBlocks, in_front, behind, begins, IsWithin, IsCutBy}
use Rattle.sorted_list.specs.Fronts.{is_before}

-- a key before one that stands before a front does too
before_falls : (at : Bool) (x y : Ordering) → ordering_index y ≤ ordering_index x → is_before at y ≡ true → is_before at x ≡ true
before_falls at x Less low e = absurd (cc)
before_falls at Less Equal low e = absurd (omega arith)
before_falls at Equal Equal low e = e
before_falls at Greater Equal low e = refl
before_falls at Less Greater low e = absurd (omega arith)
before_falls at Equal Greater low e = absurd (omega arith)
before_falls at Greater Greater low e = refl

pub falls_from : {K : Type 0} (order : K → K → Ordering) (side : K → Ordering) → ((a b : K) → order a b ≡ Less → ordering_index (side b) ≤ ordering_index (side a))
    → (at : Bool) (a b : K) → order a b ≡ Less → is_before at (side b) ≡ true → is_before at (side a) ≡ true
falls_from order side falls at a b less passes = before_falls at (side a) (side b) (falls a b less) passes

-- ---- items of which those that pass a test stand first

pub all_at : {X : Type 0} (P : X → Type 0) (xs : List X) → AllByRecursion P xs → (k : ℕ) (d : X) → k < length xs → P (slice_index_or xs k d)
all_at P [] all k d h = absurd (omega arith)
all_at P (x ∷ xs) all zero d h = all.0
all_at P (x ∷ xs) all (suc k) d h = all_at P xs all.1 k d (omega arith)

pub all_from : {X : Type 0} (P : X → Type 0) (xs : List X) → ((k : ℕ) (d : X) → k < length xs → P (slice_index_or xs k d)) → AllByRecursion P xs
all_from P [] each = tt
all_from P (x ∷ xs) each = (each 0 x (omega arith), all_from P xs (λ k d h. each (suc k) d (omega arith)))

pub all_append : {X : Type 0} (P : X → Type 0) (xs ys : List X) → AllByRecursion P xs → AllByRecursion P ys → AllByRecursion P (xs ++ ys)
all_append P [] ys one other = other
all_append P (x ∷ xs) ys one other = (one.0, all_append P xs ys one.1 other)

pub all_left : {X : Type 0} (P : X → Type 0) (xs ys : List X) → AllByRecursion P (xs ++ ys) → AllByRecursion P xs
all_left P [] ys all = tt
all_left P (x ∷ xs) ys all = (all.0, all_left P xs ys all.1)

pub all_right : {X : Type 0} (P : X → Type 0) (xs ys : List X) → AllByRecursion P (xs ++ ys) → AllByRecursion P ys
all_right P [] ys all = all
all_right P (x ∷ xs) ys all = all_right P xs ys all.1

pub all_map : {X : Type 0} (P Q : X → Type 0) → ((x : X) → P x → Q x) → (xs : List X) → AllByRecursion P xs → AllByRecursion Q xs
all_map P Q f [] all = tt
all_map P Q f (x ∷ xs) all = (f x all.0, all_map P Q f xs all.1)

module _ {X : Type 0} (test : X → Bool) where
  abbrev pub Passes : X → Type 0
  Passes x = test x ≡ true

  abbrev pub Fails : X → Type 0
  Fails x = test x ≡ false

  abbrev pub Parted : List X → Type 0
  Parted [] = Unit {0}
  Parted (x ∷ xs) = (Fails x → AllByRecursion Fails xs) × Parted xs

  fails_or : (x : X) → (Passes x → ⊥) → Fails x
  fails_or x not = by (test x) refl
    where
      by : (b : Bool) → test x ≡ b → Fails x
      by true e = absurd (not e)
      by false e = e

  pub parted_sorted : (order : X → X → Ordering) → ((a b : X) → order a b ≡ Less → Passes b → Passes a) → (xs : List X) → IsStrictlySortedBy order xs → Parted xs
  unfolding IsStrictlySortedBy
  parted_sorted order falls [] sorted = tt
  parted_sorted order falls (x ∷ xs) sorted = (
    (λ fails. all_map (λ y. order x y ≡ Less) Fails (λ y less. fails_or y (λ passes. let one = falls x y less passes in absurd (cc (one, fails)))) xs sorted.0),
    parted_sorted order falls xs sorted.1,
  )

  pub parted_right : (xs ys : List X) → Parted (xs ++ ys) → Parted ys
  parted_right [] ys parted = parted
  parted_right (x ∷ xs) ys parted = parted_right xs ys parted.1

  pub parted_left : (xs ys : List X) → Parted (xs ++ ys) → Parted xs
  parted_left [] ys parted = tt
  parted_left (x ∷ xs) ys parted = ((λ fails. all_left Fails xs ys (parted.0 fails)), parted_left xs ys parted.1)

  -- what stands before one that passes passes
  pub parted_before : (xs : List X) (y : X) (ys : List X) → Parted (xs ++ y ∷ ys) → Passes y → AllByRecursion Passes xs
  parted_before [] y ys parted passes = tt
  parted_before (x ∷ xs) y ys parted passes = (by (test x) refl, parted_before xs y ys parted.1 passes)
    where
      by : (b : Bool) → test x ≡ b → Passes x
      by true e = e
      by false e = let fails = (all_right Fails xs (y ∷ ys) (parted.0 e)).0 in absurd (cc (fails, passes))

  pub partitioned : (xs : List X) → Parted xs → IsPartitionedBy test xs
  partitioned [] parted i j d low inside passes = absurd (omega arith)
  partitioned (x ∷ xs) parted zero zero d low inside passes = passes
  partitioned (x ∷ xs) parted zero (suc j) d low inside passes = by (test x) refl
    where
      by : (b : Bool) → test x ≡ b → Passes x
      by true e = e
      by false e = let fails = all_at Fails xs (parted.0 e) j d (omega arith) in absurd (cc (fails, passes))
  partitioned (x ∷ xs) parted (suc i) zero d low inside passes = absurd (omega arith)
  partitioned (x ∷ xs) parted (suc i) (suc j) d low inside passes = partitioned xs parted.1 i j d (omega arith) (omega arith) passes

  pub cut_here : (xs : List X) (n : ℕ) → n ≤ length xs → IsPartitionPoint Passes Fails xs n → AllByRecursion Passes (take n xs) × AllByRecursion Fails (drop n xs)
  cut_here xs zero within parts = (tt, all_from Fails xs (λ k d h. parts.1 k d (omega arith) h))
  cut_here [] (suc n) within parts = absurd (omega arith)
  cut_here (x ∷ xs) (suc n) within parts =
      let rest = cut_here xs n (omega arith) (λ k d low high. parts.0 (suc k) d (omega arith) (omega arith), λ k d low high. parts.1 (suc k) d (omega arith) (omega arith)) in
      ((parts.0 0 x (omega arith) (omega arith), rest.0), rest.1)

-- ---- blocks

module _ {K : Type 0} (test : K → Bool) where
  -- a block that begins with a key that fails has none that passes behind it
  fails_on : (ks rest : List K) → 0 < length ks → begins test ks ≡ false → Parted test (ks ++ rest) → AllByRecursion (Fails test) (ks ++ rest)
  fails_on [] rest some fails parted = absurd (omega arith)
  fails_on (k ∷ ks) rest some fails parted = (fails, parted.0 fails)

  passes_on : (front ks rest : List K) → begins test ks ≡ true → Parted test (front ++ (ks ++ rest)) → AllByRecursion (Passes test) front
  passes_on front [] rest passes parted = absurd (cc)
  passes_on front (k ∷ ks) rest passes parted = parted_before test front k (ks ++ rest) parted passes

  -- a block that begins with a key that passes is cut behind that
  not_at_first : (ks : List K) → begins test ks ≡ true → IsPartitionPoint (Passes test) (Fails test) ks 0 → ⊥
  not_at_first [] passes point = absurd (cc)
  not_at_first (k ∷ ks) passes point = let fails : test k ≡ false = point.1 0 k (omega arith) (omega arith) in absurd (cc (passes, fails))

module _ {K Z : Type 0} (test : K → Bool) where
  abbrev begins_so : Vec K Z → Bool
  begins_so b = begins test b.items

  fails_each : (bs : List (Vec K Z)) → AreFilled bs → AllByRecursion (Fails test) (joined bs) → AllByRecursion (Fails begins_so) bs
  fails_each [] filled all = tt
  fails_each (b ∷ bs) filled all = (one b.items filled.0 (all_left (Fails test) b.items (joined bs) all), fails_each bs filled.1 (all_right (Fails test) b.items (joined bs) all))
    where
      one : (ks : List K) → 0 < length ks → AllByRecursion (Fails test) ks → begins test ks ≡ false
      one [] some all = absurd (omega arith)
      one (k ∷ ks) some all = all.0

  pub parted_blocks : (bs : List (Vec K Z)) → AreFilled bs → Parted test (joined bs) → Parted begins_so bs
  parted_blocks [] filled parted = tt
  parted_blocks (b ∷ bs) filled parted = (
    (λ fails. fails_each bs filled.1 (all_right (Fails test) b.items (joined bs) (fails_on test b.items (joined bs) filled.0 fails parted))),
    parted_blocks bs filled.1 (parted_right test b.items (joined bs) parted),
  )

  pub parted_block : (bs : List (Vec K Z)) → Parted test (joined bs) → (m : ℕ) (block : Vec K Z) → m < length bs → block ≡ slice_index_or bs m block → Parted test block.items
  parted_block [] parted m block inside is = absurd (omega arith)
  parted_block (b ∷ bs) parted zero block inside is = subst (λ (v : Vec K Z). Parted test v.items) (sym is) (parted_left test b.items (joined bs) parted)
  parted_block (b ∷ bs) parted (suc m) block inside is = parted_block bs (parted_right test b.items (joined bs) parted) m block (omega arith) is

  -- What a cut between blocks and one within a block say.
  pub record IsCut (bs : List (Vec K Z)) (m at : ℕ) : Type 0 where
    pub before : AllByRecursion (Passes test) (in_front bs m at)
    pub rest : AllByRecursion (Fails test) (behind bs m at)

  cut_at : (bs : List (Vec K Z)) (m at : ℕ) → AreFilled bs → Parted test (joined bs) → m < length bs → IsPartitionPoint (Passes begins_so) (Fails begins_so) bs (suc m)
      → (block : Vec K Z) → block ≡ slice_index_or bs m block → at ≤ length block.items → IsPartitionPoint (Passes test) (Fails test) block.items at → IsCut bs m at
  cut_at [] m at filled parted inside parts block is within point = absurd (omega arith)
  cut_at (b ∷ []) zero at filled parted inside parts block is within point =
      let here = subst (λ (v : Vec K Z). (at ≤ length v.items) × IsPartitionPoint (Passes test) (Fails test) v.items at) is (within, point) in
      let cut = cut_here test b.items at here.0 here.1 in
      record { before = cut.0; rest = all_append (Fails test) (drop at b.items) [] cut.1 tt }
  cut_at (b ∷ c ∷ cs) zero at filled parted inside parts block is within point =
      let here = subst (λ (v : Vec K Z). (at ≤ length v.items) × IsPartitionPoint (Passes test) (Fails test) v.items at) is (within, point) in
      let cut = cut_here test b.items at here.0 here.1 in
      let next : begins_so c ≡ false = parts.1 1 c (omega arith) (omega arith) in
      record {
        before = cut.0;
        rest = all_append (Fails test) (drop at b.items) (joined (c ∷ cs)) cut.1 (fails_on test c.items (joined cs) filled.1.0 next (parted_right test b.items (joined (c ∷ cs)) parted));
      }
  cut_at (b ∷ []) (suc m) at filled parted inside parts block is within point = absurd (omega arith)
  cut_at (b ∷ c ∷ cs) (suc m) at filled parted inside parts block is within point =
      let next : begins_so c ≡ true = parts.0 1 c (omega arith) (omega arith) in
      let later = cut_at (c ∷ cs) m at filled.1 (parted_right test b.items (joined (c ∷ cs)) parted) (omega arith)
      (λ k d low high. parts.0 (suc k) d (omega arith) (omega arith), λ k d low high. parts.1 (suc k) d (omega arith) (omega arith)) block is within point in
      record {
        before = all_append (Passes test) b.items (in_front (c ∷ cs) m at) (passes_on test b.items c.items (joined cs) next parted) later.before;
        rest = later.rest;
      }

  module _ (order : K → K → Ordering) (falls : (a b : K) → order a b ≡ Less → Passes test b → Passes test a) (bs : List (Vec K Z)) (are : AreBlocks order bs)
      (count : ℕ) (within : count ≤ length bs) (cut : IsCutBy begins_so bs count) where
    parted_all : Parted test (joined bs)
    parted_all = parted_sorted test order falls (joined bs) are.sorted

    parts : IsPartitionPoint (Passes begins_so) (Fails begins_so) bs count
    parts = cut (partitioned begins_so bs (parted_blocks bs are.filled parted_all))

    pub none_before : count ≡ 0 → IsCut bs 0 0
    none_before none = by bs are.filled parted_all (subst (λ n. IsPartitionPoint (Passes begins_so) (Fails begins_so) bs n) none parts)
      where
        by : (bs : List (Vec K Z)) → AreFilled bs → Parted test (joined bs) → IsPartitionPoint (Passes begins_so) (Fails begins_so) bs 0 → IsCut bs 0 0
        by [] filled parted point = record { before = tt; rest = tt }
        by (b ∷ bs) filled parted point = record { before = tt; rest = fails_on test b.items (joined bs) filled.0 (point.1 0 b (omega arith) (omega arith)) parted }

    -- so keys before all blocks pass where the first block begins so
    pub passes_before : 0 < count → (keys : List K) → Parted test (keys ++ joined bs) → AllByRecursion (Passes test) keys
    passes_before some keys whole = by bs within parts whole
      where
        by : (bs : List (Vec K Z)) → count ≤ length bs → IsPartitionPoint (Passes begins_so) (Fails begins_so) bs count → Parted test (keys ++ joined bs) → AllByRecursion (Passes test) keys
        by [] low point whole = absurd (omega arith)
        by (b ∷ bs) low point whole = passes_on test keys b.items (joined bs) (point.0 0 b (omega arith) some) whole

    module _ (some : 0 < count) (block : Vec K Z) (is : block ≡ slice_index_or bs (count - 1) block) (at : ℕ) (inside : at ≤ length block.items) (ends : IsCutBy test block.items at) where
      point : IsPartitionPoint (Passes test) (Fails test) block.items at
      point = ends (partitioned test block.items (parted_block bs parted_all (count - 1) block (omega arith) is))

      pub cut_place : IsCut bs (count - 1) at
      cut_place =
          let e : suc (count - 1) ≡ count = omega arith in
          cut_at bs (count - 1) at are.filled parted_all (omega arith) (subst (λ n. IsPartitionPoint (Passes begins_so) (Fails begins_so) bs n) (sym e) parts) block is inside point

      pub cut_behind_first : at ≡ 0 → ⊥
      cut_behind_first none =
          let first : begins_so block ≡ true = ap begins_so is ∙ parts.0 (count - 1) block (omega arith) (omega arith) in
          not_at_first test block.items first (subst (λ n. IsPartitionPoint (Passes test) (Fails test) block.items n) none point)

-- a place in a block is one within all
pub within_block : {K Z : Type 0} (bs : List (Vec K Z)) (m at : ℕ) → m < length bs → (block : Vec K Z) → block ≡ slice_index_or bs m block → at ≤ length block.items → IsWithin bs m at
within_block [] m at inside block is low = absurd (omega arith)
within_block (b ∷ bs) zero at inside block is low = omega (arith, low, ap (λ v. length v.items) is)
within_block (b ∷ bs) (suc m) at inside block is low = (omega arith, within_block bs m at (omega arith) block is low)

pub within_none : {K Z : Type 0} (bs : List (Vec K Z)) → IsWithin bs 0 0
within_none [] = (refl, refl)
within_none (b ∷ bs) = omega arith

pub in_front_none : {K Z : Type 0} (bs : List (Vec K Z)) → in_front bs 0 0 ≡ []
in_front_none [] = refl
in_front_none (b ∷ bs) = refl
