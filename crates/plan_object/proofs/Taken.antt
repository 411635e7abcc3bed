-- Numbers of replicas on their leaves: a leaf keeps its number, and a new one gets one that none has.
use Rattle.std.proofs.Common.{◌≡◌, ◌==◌, ◌⊎◌, ℕ, zero, suc, ◌+◌, ◌-◌, ◌^◌, ◌<◌, ◌≤◌, Bool, true, false, cond, List, [], ◌∷◌, ◌++◌, length, Option, Some, None, inl, inr, refl, sym, ap, ◌∙◌, subst, arith, eq-eqb, eqb-true}
use Rattle.std.specs.Prelude.{◌≢◌, find, filter, not, nat_lt}
use Rattle.std.specs.List.{AllByRecursion, list_any}
use Rattle.std.proofs.lemmas.Bool.{cases_lt, ne_eqb}
use Rattle.grid_model.specs.Rows.{Cat}
use Rattle.grid_model.specs.Whole.{leaf_slot}
use Rattle.grid_model.proofs.FoundRows.{none_passes}
use Rattle.tables_laws.proofs.Rows.{IsIn, all_from_in, any_from_in, filter_from_in, in_from_all, in_from_any, in_from_find}
use Rattle.file_laws.specs.Puts.{Target}
use Rattle.file_laws.specs.Rewriting.{AreNumbered, NumberedTarget, targets_of}
use Rattle.grid_access.proofs.MapEntries.{map_from_in}
use Rattle.grid_tree.proofs.Reachable.{in_from_append}
use Rattle.plan_base.proofs.Sizes.{Apart}
use Rattle.plan_object.specs.LeafNumbers.{above_all, first_gap, fresh_number, leaf_number_by, leaf_number_on, more_taken, more_taken_by, with_numbers}
use Rattle.plan_object.specs.declared.numbering.LeafNumber.{LeafNumber}

-- ---- a number that is not taken

pub below_above : (taken : List LeafNumber) (x : LeafNumber) → IsIn taken x → x.number < above_all taken
below_above [] x here = absurd here
below_above (n ∷ taken) x (inl is) = omega (arith, ap (λ (y : LeafNumber). y.number) is)
below_above (n ∷ taken) x (inr later) = omega (arith, below_above taken x later)

fewer : (p : LeafNumber → Bool) (xs : List LeafNumber) → length (filter p xs) ≤ length xs
fewer p [] = omega arith
fewer p (x ∷ xs) = elim (p x) as (λ b. length (cond b (x ∷ filter p xs) (filter p xs)) ≤ length (x ∷ xs)) [
  | true ↦ omega (arith, fewer p xs)
  | false ↦ omega (arith, fewer p xs)
]

one_less : (p : LeafNumber → Bool) (xs : List LeafNumber) (x : LeafNumber) → IsIn xs x → p x ≡ false → length (filter p xs) < length xs
one_less p [] x here fails = absurd here
one_less p (y ∷ xs) x (inl is) fails = subst (λ b. length (cond b (y ∷ filter p xs) (filter p xs)) < length (y ∷ xs)) (sym (ap p is ∙ fails)) (omega (arith, fewer p xs))
one_less p (y ∷ xs) x (inr later) fails = elim (p y) as (λ b. length (cond b (y ∷ filter p xs) (filter p xs)) < length (y ∷ xs)) [
  | true ↦ omega (arith, one_less p xs x later fails)
  | false ↦ omega (arith, one_less p xs x later fails)
]

-- some leaf has the number
abbrev IsTaken : List LeafNumber → ℕ → Type 0
IsTaken taken n = (x : LeafNumber) × IsIn taken x × (x.number ≡ n)

-- of so many numbers each is of another leaf
crowded : (n : ℕ) (taken : List LeafNumber) → ((k : ℕ) → k < n → IsTaken taken k) → n ≤ length taken
crowded zero taken all = omega arith
crowded (suc n) taken all =
    let last = all n (omega arith) in
    let less : length (filter (λ x. not (x.number == n)) taken) < length taken = one_less (λ x. not (x.number == n)) taken last.0 last.1 (ap not (eq-eqb last.0.number n last.2)) in
    let rest : n ≤ length (filter (λ (x : LeafNumber). not (x.number == n)) taken) = crowded n (filter (λ x. not (x.number == n)) taken) (λ k low.
    let x = all k (omega (arith, low)) in
    (x.0, filter_from_in (λ (y : LeafNumber). not (y.number == n)) taken x.0 x.1 (ap not (ne_eqb x.0.number n (λ e. omega (arith, low, x.2, e)))), x.2)) in
    omega (arith, less, rest)

-- each number up to n is taken, once n is
up_to : (n : ℕ) (taken : List LeafNumber) → ((k : ℕ) → k < n → IsTaken taken k) → IsTaken taken n → (k : ℕ) → k < n + 1 → IsTaken taken k
up_to n taken all its k low = elim (cases_lt k n) [
  | inl lt ↦ all k lt
  | inr le ↦ let same : n ≡ k = omega (arith, le, low) in (its.0, its.1, its.2 ∙ same)
]

gap_free : (d n : ℕ) (taken : List LeafNumber) → length taken ≤ d + n → ((k : ℕ) → k < n → IsTaken taken k) → (x : LeafNumber) → IsIn taken x → x.number ≡ first_gap d taken n → ⊥
gap_free zero n taken few all x here is =
    let more : n + 1 ≤ length taken = crowded (n + 1) taken (up_to n taken all (x, here, is)) in
    omega (arith, more, few)
gap_free (suc d) n taken few all x here is = by (list_any (λ t. t.number == n) taken) refl is (λ some. gap_free d (n + 1) taken (omega (arith, few)) some x here)
  where
    by : (b : Bool) → list_any (λ (t : LeafNumber). t.number == n) taken ≡ b → x.number ≡ elim b as (λ _. ℕ) [ true ↦ first_gap d taken (n + 1) | false ↦ n ]
        → (((k : ℕ) → k < n + 1 → IsTaken taken k) → x.number ≡ first_gap d taken (n + 1) → ⊥) → ⊥
    by true some is more =
        let found = in_from_any (λ (t : LeafNumber). t.number == n) taken some in
        more (up_to n taken all (found.0, found.1, eqb-true found.0.number n found.2)) is
    by false none is more = let wrong : list_any (λ (t : LeafNumber). t.number == n) taken ≡ true = any_from_in (λ (t : LeafNumber). t.number == n) taken x here (eq-eqb x.number n is) in cc

-- one number further, where this one is taken
pub gap_further : (taken : List LeafNumber) (count n : ℕ) → n < count → true ≡ list_any (λ t. t.number == n) taken → first_gap (count - n) taken n ≡ first_gap (count - (n + 1)) taken (n + 1)
gap_further taken count n inside is =
    let more : count - n ≡ suc (count - (n + 1)) = omega (arith, inside) in
    ap (λ d. first_gap d taken n) more ∙ ap (λ b. elim b as (λ _. ℕ) [ true ↦ first_gap (count - (n + 1)) taken (n + 1) | false ↦ n ]) (sym is)

pub fresh_free : (taken : List LeafNumber) (x : LeafNumber) → IsIn taken x → x.number ≡ fresh_number taken → ⊥
fresh_free taken x here is = by (nat_lt (above_all taken) (2 ^ 32)) is
  where
    by : (b : Bool) → x.number ≡ elim b as (λ _. ℕ) [ true ↦ above_all taken | false ↦ first_gap (length taken) taken 0 ] → ⊥
    by true is = omega (arith, below_above taken x here, is)
    by false is = gap_free (length taken) 0 taken (omega arith) (λ k low. absurd (omega (arith, low))) x here is

-- ---- one more leaf

-- no two are on one leaf, and no two have one number
pub record AreOwn (taken : List LeafNumber) : Type 0 where
  pub leaves : (x y : LeafNumber) → IsIn taken x → IsIn taken y → x.leaf ≡ y.leaf → x ≡ y
  pub numbers : (x y : LeafNumber) → IsIn taken x → IsIn taken y → x.number ≡ y.number → x ≡ y

pub none_own : AreOwn []
none_own = record { leaves = λ x y here. absurd here; numbers = λ x y here. absurd here }

pub first_in : {X : Type 0} (xs ys : List X) (x : X) → IsIn xs x → IsIn (xs ++ ys) x
first_in [] ys x here = absurd here
first_in (y ∷ xs) ys x (inl is) = inl is
first_in (y ∷ xs) ys x (inr later) = inr (first_in xs ys x later)

pub second_in : {X : Type 0} (xs ys : List X) (x : X) → IsIn ys x → IsIn (xs ++ ys) x
second_in [] ys x here = here
second_in (y ∷ xs) ys x here = inr (second_in xs ys x here)

pub pushed : {X : Type 0} (xs : List X) (y x : X) → IsIn (xs ++ y ∷ []) x → IsIn xs x ⊎ (x ≡ y)
pushed xs y x here = elim (in_from_append xs (y ∷ []) x here) [ inl was ↦ inl was | inr new ↦ elim new [ inl is ↦ inr (sym is) | inr none ↦ absurd none ] ]

-- none is on the leaf
pub not_on : (taken : List LeafNumber) (leaf : ℕ) → find (λ t. t.leaf == leaf) taken ≡ None → (x : LeafNumber) → IsIn taken x → x.leaf ≡ leaf → ⊥
not_on taken leaf none x here same =
    let fails : (x.leaf == leaf) ≡ false = in_from_all (λ (t : LeafNumber). (t.leaf == leaf) ≡ false) taken (none_passes (λ (t : LeafNumber). t.leaf == leaf) taken none) x here in
    let passes : (x.leaf == leaf) ≡ true = eq-eqb x.leaf leaf same in
    cc

-- the leaf has its number, and the other ones have theirs
pub record HasNumber (taken : List LeafNumber) (leaf : ℕ) (o : Option LeafNumber) : Type 0 where
  pub here : IsIn (more_taken_by taken leaf o) (leaf_number_by taken leaf o)
  pub leaf_is : (leaf_number_by taken leaf o).leaf ≡ leaf
  pub stays : (x : LeafNumber) → IsIn taken x → IsIn (more_taken_by taken leaf o) x
  pub from : (x : LeafNumber) → IsIn (more_taken_by taken leaf o) x → IsIn taken x ⊎ (x ≡ leaf_number_by taken leaf o)
  pub own : AreOwn (more_taken_by taken leaf o)

pub has_number : (taken : List LeafNumber) (leaf : ℕ) → AreOwn taken → HasNumber taken leaf (find (λ t. t.leaf == leaf) taken)
has_number taken leaf own = by (find (λ t. t.leaf == leaf) taken) refl
  where
    by : (o : Option LeafNumber) → find (λ (t : LeafNumber). t.leaf == leaf) taken ≡ o → HasNumber taken leaf o
    by (Some n) is =
        let its = in_from_find (λ (t : LeafNumber). t.leaf == leaf) taken n is in
        record { here = its.0; leaf_is = eqb-true n.leaf leaf its.1; stays = λ x here. here; from = λ x here. inl here; own = own }
    by None is =
        let new : LeafNumber = leaf_number_by taken leaf None in
        record {
          here = second_in taken (new ∷ []) new (inl refl);
          leaf_is = refl;
          stays = λ x here. first_in taken (new ∷ []) x here;
          from = λ x here. pushed taken new x here;
          own = record {
            leaves = λ x y here there same. elim (pushed taken new x here) [
              | inl x_was ↦ elim (pushed taken new y there) [
                | inl y_was ↦ own.leaves x y x_was y_was same
                | inr y_is ↦ absurd (not_on taken leaf is x x_was (same ∙ ap (λ (z : LeafNumber). z.leaf) y_is))
              ]
              | inr x_is ↦ elim (pushed taken new y there) [
                | inl y_was ↦ absurd (not_on taken leaf is y y_was (sym same ∙ ap (λ (z : LeafNumber). z.leaf) x_is))
                | inr y_is ↦ x_is ∙ sym y_is
              ]
            ];
            numbers = λ x y here there same. elim (pushed taken new x here) [
              | inl x_was ↦ elim (pushed taken new y there) [
                | inl y_was ↦ own.numbers x y x_was y_was same
                | inr y_is ↦ absurd (fresh_free taken x x_was (same ∙ ap (λ (z : LeafNumber). z.number) y_is))
              ]
              | inr x_is ↦ elim (pushed taken new y there) [
                | inl y_was ↦ absurd (fresh_free taken y y_was (sym same ∙ ap (λ (z : LeafNumber). z.number) x_is))
                | inr y_is ↦ x_is ∙ sym y_is
              ]
            ];
          };
        }

-- ---- all of them

-- in the end each target has its number
pub record AllTaken (taken : List LeafNumber) (ts : List Target) : Type 0 where
  pub last : List LeafNumber
  pub own : AreOwn last
  pub stays : (x : LeafNumber) → IsIn taken x → IsIn last x
  pub at : (t : NumberedTarget) → IsIn (with_numbers taken ts) t → (x : LeafNumber) × IsIn last x × (x.leaf ≡ t.target.leaf) × (x.number ≡ t.number)

pub all_taken : (ts : List Target) (taken : List LeafNumber) → AreOwn taken → AllTaken taken ts
all_taken [] taken own = record { last = taken; own = own; stays = λ x here. here; at = λ t none. absurd none }
all_taken (t ∷ ts) taken own =
    let its = has_number taken t.leaf own in
    let rest = all_taken ts (more_taken taken t.leaf) its.own in
    record {
      last = rest.last;
      own = rest.own;
      stays = λ x here. rest.stays x (its.stays x here);
      at = λ u which. elim which [
        | inl is ↦ (leaf_number_on taken t.leaf, rest.stays (leaf_number_on taken t.leaf) its.here, its.leaf_is ∙ ap (λ (w : NumberedTarget). w.target.leaf) is, ap (λ (w : NumberedTarget). w.number) is)
        | inr later ↦ rest.at u later
      ];
    }

pub targets-with_numbers : (ts : List Target) (taken : List LeafNumber) → targets_of (with_numbers taken ts) ≡ ts
targets-with_numbers [] taken = refl
targets-with_numbers (t ∷ ts) taken = ap (λ (us : List Target). t ∷ us) (targets-with_numbers ts (more_taken taken t.leaf))

pub target_in : (ts : List Target) (taken : List LeafNumber) (u : NumberedTarget) → IsIn (with_numbers taken ts) u → IsIn ts u.target
target_in ts taken u here = subst (λ (us : List Target). IsIn us u.target) (targets-with_numbers ts taken) (map_from_in (λ (t : NumberedTarget). t.target) (with_numbers taken ts) u here)

pub are_numbered : (c : Cat) (ts : List Target) (taken : List LeafNumber) → AreOwn taken → Apart (λ (t : Target). t.leaf) ts → AllByRecursion (λ (t : Target). leaf_slot c t.leaf ≡ Some t.slot) ts → AreNumbered c (with_numbers taken ts)
are_numbered c [] taken own apart slots = tt
are_numbered c (t ∷ ts) taken own apart slots =
    let its = has_number taken t.leaf own in
    let rest = all_taken ts (more_taken taken t.leaf) its.own in
    let number : ℕ = (leaf_number_on taken t.leaf).number in (
      slots.0,
      all_from_in (λ (u : NumberedTarget). u.number ≢ number) (with_numbers (more_taken taken t.leaf) ts) (λ u here same.
          let x = rest.at u here in
          let one : x.0 ≡ leaf_number_on taken t.leaf = rest.own.numbers x.0 (leaf_number_on taken t.leaf) x.1 (rest.stays (leaf_number_on taken t.leaf) its.here) (x.3 ∙ same) in
          apart.0 u.target (target_in ts (more_taken taken t.leaf) u here) (sym x.2 ∙ ap (λ (z : LeafNumber). z.leaf) one ∙ its.leaf_is)),
      are_numbered c ts (more_taken taken t.leaf) its.own apart.1 slots.1,
    )
