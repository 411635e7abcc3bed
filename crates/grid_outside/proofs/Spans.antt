-- How calls of devices go on, one after another.
use Rattle.std.proofs.Math.ListN.{length-set}
use Rattle.std.proofs.Common.{◌≡◌, ◌≢◌, ◌⊎◌, inl, inr, ℕ, zero, suc, ◌+◌, ◌<◌, ◌≤◌, IsTrue, List, [], ◌∷◌, length, set, slice_get, Some, arith, refl, sym, subst, ap, ◌∙◌}
use Rattle.std.proofs.lemmas.Bool.{cases_lt}
use Rattle.std.proofs.lemmas.Option.{slice_get_within}
use Rattle.grid_outside.specs.Device.{DeviceState, Acts, Looks, Between, IsSettled, Leaves, EachMember, Span}

module _ {C : Type 0} where
  -- nothing was called
  pub stays : (from to : ℕ) (change : C → C → Type 0) (s : DeviceState C) → s.last ≤ from → from ≤ to → ((c : C) → change c c) → Between from to change s s
  stays from to change s last le same = record {
    faults = omega arith;
    tells = refl;
    last_from = omega arith;
    last = omega (arith, last, le);
    holds = λ tells. same s.holds;
    earlier = λ t image before. ((λ x. x), (λ x. x));
    images = λ tells t image after left. (image, s.steady t (from + 1) image (omega (arith, last, after)) (omega (arith, last)) left, same image);
  }

  -- a look alone
  pub looked : (from to : ℕ) (change : C → C → Type 0) (old new : DeviceState C) → old.last ≤ from → from ≤ to → old.faults ≤ new.faults → ((a b : C) → b ≡ a → change a b)
      → Looks old new → Between from to change old new
  looked from to change old new last le faults same looks = record {
    faults = faults;
    tells = looks.tells;
    last_from = omega (arith, looks.last);
    last = omega (arith, last, le, looks.last);
    holds = λ tells. same _ _ (looks.holds tells);
    earlier = λ t image before. looks.left t image;
    images = λ tells t image after left. (image, old.steady t (from + 1) image (omega (arith, last, after)) (omega (arith, last)) ((looks.left t image).0 left), same image image refl);
  }

  -- one call
  pub acted : (from to moment : ℕ) (change : C → C → Type 0) (old new : DeviceState C) → old.last ≤ from → moment ≡ from + 1 → moment ≤ to → old.faults ≤ new.faults → Acts moment change old new → Between from to change old new
  acted from to moment change old new last is le faults acts = record {
    faults = faults;
    tells = acts.tells;
    last_from = omega (arith, acts.last, last);
    last = omega (arith, acts.last);
    holds = acts.holds;
    earlier = λ t image before. acts.earlier t image (omega arith);
    images = λ tells t image after left.
        let step = acts.images tells t image (omega arith) left in
        (step.0, subst (λ m. old.left m step.0) is step.1, step.2);
  }

  -- one after another
  pub goes_on : (a b c : ℕ) (first second change : C → C → Type 0) (old mid new : DeviceState C) → a ≤ b → b ≤ c
      → ((x y : C) → first x y → change x y) → ((x y z : C) → first x y → second y z → change x z)
      → Between a b first old mid → Between b c second mid new → Between a c change old new
  goes_on a b c first second change old mid new ab bc one two before after = record {
    faults = omega (arith, before.faults, after.faults);
    tells = after.tells ∙ before.tells;
    last_from = omega (arith, before.last_from, after.last_from);
    last = after.last;
    holds = λ tells. two _ _ _ (before.holds tells) (after.holds (subst IsTrue (sym before.tells) tells));
    earlier = λ t image le.
        let far = after.earlier t image (omega (arith, le, ab)) in
        let near = before.earlier t image le in
        ((λ x. near.0 (far.0 x)), (λ x. far.1 (near.1 x)));
    images = λ tells t image late left. elim (cases_lt b t) [
      | inl lt ↦
          let last_step = after.images (subst IsTrue (sym before.tells) tells) t image lt left in
          let first_step = before.images tells (b + 1) last_step.0 (omega (arith, ab)) last_step.1 in
          (first_step.0, first_step.1, two _ _ _ first_step.2 last_step.2)
      | inr le ↦
          let here = before.images tells t image late ((after.earlier t image le).0 left) in
          (here.0, here.1, one _ _ here.2)
    ];
  }

-- a step that is allowed more
pub widens : {C : Type 0} (from to : ℕ) (narrow wide : C → C → Type 0) (old new : DeviceState C) → ((x y : C) → narrow x y → wide x y) → Between from to narrow old new → Between from to wide old new
widens from to narrow wide old new more between = record {
  faults = between.faults;
  tells = between.tells;
  last_from = between.last_from;
  last = between.last;
  holds = λ tells. more _ _ (between.holds tells);
  earlier = between.earlier;
  images = λ tells t image late left. let step = between.images tells t image late left in (step.0, step.1, more _ _ step.2);
}

-- Where nothing was pending, a stop since then leaves what was held, changed so.
pub since_settled : {C : Type 0} (from to : ℕ) (change : C → C → Type 0) (old new : DeviceState C) → IsTrue old.tells → IsSettled old → old.last ≤ from → Between from to change old new
    → (t : ℕ) (image : C) → from < t → new.left t image → change old.holds image
since_settled from to change old new tells settled last between t image late left =
    let step = between.images tells t image late left in
    let P : _ → Type 0 = λ c. change c image in
    subst P (settled (from + 1) step.0 (omega (arith, last)) step.1) step.2

-- A second stretch began where nothing was pending: an image of both is one of the first, or of what was held between them.
pub either_stretch : {C : Type 0} (a b c : ℕ) (first second : C → C → Type 0) (old mid new : DeviceState C) → IsTrue old.tells → IsSettled old → old.last ≤ a → IsSettled mid
    → Between a b first old mid → Between b c second mid new
    → (t : ℕ) (image : C) → a < t → new.left t image → first old.holds image ⊎ second mid.holds image
either_stretch a b c first second old mid new tells settled last mid_settled before after t image late left = elim (cases_lt b t) [
  | inl lt ↦ inr (since_settled b c second mid new (subst IsTrue (sym before.tells) tells) mid_settled before.last after t image lt left)
  | inr le ↦ inl (since_settled a b first old mid tells settled last before t image late ((after.earlier t image le).0 left))
]

-- before the first call
pub leaves_start : {C : Type 0} (from : ℕ) (Q : C → Type 0) (s : DeviceState C) → s.last ≤ from → IsSettled s → Q s.holds → Leaves from Q s
leaves_start from Q s last settled here t image late left = subst Q (sym (settled t image (omega (arith, last, late)) left)) here

-- one stretch more, of a device on which nothing was pending
pub leaves_on : {C : Type 0} (from a b : ℕ) (Q : C → Type 0) (change : C → C → Type 0) (mid new : DeviceState C) → IsTrue mid.tells → from ≤ a → mid.last ≤ a → IsSettled mid
    → ((image : C) → change mid.holds image → Q image) → Leaves from Q mid → Between a b change mid new → Leaves from Q new
leaves_on from a b Q change mid new tells later last settled then_Q so_far between t image late left = elim (cases_lt a t) [
  | inl lt ↦ then_Q image (since_settled a b change mid new tells settled last between t image lt left)
  | inr le ↦ so_far t image late ((between.earlier t image le).0 left)
]

-- a list with one member changed
pub slice_get-set_other : {B : Type 0} (xs : List B) (i k : ℕ) (b : B) → k ≢ i → slice_get (set xs i b) k ≡ slice_get xs k
slice_get-set_other [] i k b other = refl
slice_get-set_other (x ∷ xs) zero zero b other = absurd (other refl)
slice_get-set_other (x ∷ xs) zero (suc k) b other = refl
slice_get-set_other (x ∷ xs) (suc i) zero b other = refl
slice_get-set_other (x ∷ xs) (suc i) (suc k) b other = slice_get-set_other xs i k b (λ e. other (ap suc e))

pub slice_get-set_same : {B : Type 0} (xs : List B) (i : ℕ) (b : B) → i < length xs → slice_get (set xs i b) i ≡ Some b
slice_get-set_same [] i b lt = absurd (omega arith)
slice_get-set_same (x ∷ xs) zero b lt = refl
slice_get-set_same (x ∷ xs) (suc i) b lt = slice_get-set_same xs i b (omega arith)

pub some_is : {B : Type 0} (a b : B) → Some a ≡ Some b → a ≡ b
some_is a b e = cc

pub same_place : {B : Type 0} (xs : List B) (k : ℕ) (a b : B) → slice_get xs k ≡ Some a → slice_get xs k ≡ Some b → b ≡ a
same_place xs k a b one two = some_is b a (sym two ∙ one)

pub at_place : {B : Type 0} (xs : List B) (k : ℕ) → k < length xs → (b : B) × (slice_get xs k ≡ Some b)
at_place [] k lt = absurd (omega arith)
at_place (x ∷ xs) zero lt = (x, refl)
at_place (x ∷ xs) (suc k) lt = at_place xs k (omega arith)

-- equal or not
pub nat_cases : (m n : ℕ) → (m ≡ n) ⊎ (m ≢ n)
nat_cases m n = elim (cases_lt m n) [
  | inl lt ↦ inr (λ e. omega arith)
  | inr ge ↦ elim (cases_lt n m) [ inl lt ↦ inr (λ e. omega arith) | inr le ↦ inl (omega arith) ]
]

module _ {B C : Type 0} (state : B → DeviceState C) (change : ℕ → C → C → Type 0) (same : (k : ℕ) (c : C) → change k c c) (touched : ℕ → Type 0) where
  -- nothing was called
  pub none_called : (from to : ℕ) (all : List B) → from ≤ to → EachMember (λ k b. (state b).last ≤ from) all → Span state from to change touched all all
  none_called from to all le last = record {
    count = refl;
    untouched = λ k before after is was not. same_place all k before after is was;
    each = λ k before after is was.
        let P : B → Type 0 = λ b. Between from to (change k) (state before) (state b) in
        subst P (sym (same_place all k before after is was)) (stays from to (change k) (state before) (last k before is) le (same k));
  }

  -- none was given a later moment
  pub lasts : (from to : ℕ) (old new : List B) → Span state from to change touched old new → EachMember (λ k b. (state b).last ≤ to) new
  lasts from to old new span k after is =
      let at = at_place old k (omega (arith, slice_get_within new k after is, span.count)) in
      (span.each k at.0 after at.1 is).last

  -- one of them was called
  pub one_called : (from to : ℕ) (all : List B) (i : ℕ) (x y : B) → from ≤ to → EachMember (λ k b. (state b).last ≤ from) all → slice_get all i ≡ Some x → touched i
      → Between from to (change i) (state x) (state y) → Span state from to change touched all (set all i y)
  one_called from to all i x y le last is touches between = record {
    count = length-set all i y;
    untouched = λ k before after was is_now not.
        let other : k ≢ i = λ e. not (subst touched (sym e) touches) in
        same_place all k before after was (sym (slice_get-set_other all i k y other) ∙ is_now);
    each = λ k before after was is_now. elim (nat_cases k i) [
      | inl e ↦
          let new_is : after ≡ y = some_is after y (sym is_now ∙ ap (λ j. slice_get (set all i y) j) e ∙ slice_get-set_same all i y (slice_get_within all i x is)) in
          let old_is : before ≡ x = some_is before x (sym was ∙ ap (slice_get all) e ∙ is) in
          let P : ℕ → Type 0 = λ j. Between from to (change j) (state before) (state after) in
          let Q : B → Type 0 = λ b. Between from to (change i) (state b) (state after) in
          let R : B → Type 0 = λ b. Between from to (change i) (state x) (state b) in
          subst P (sym e) (subst Q (sym old_is) (subst R (sym new_is) between))
      | inr other ↦
          let new_is = same_place all k before after was (sym (slice_get-set_other all i k y other) ∙ is_now) in
          let R : B → Type 0 = λ b. Between from to (change k) (state before) (state b) in
          subst R (sym new_is) (stays from to (change k) (state before) (last k before was) le (same k))
    ];
  }

  module _ (two : (k : ℕ) (x y z : C) → change k x y → change k y z → change k x z) where
    -- one stretch after another
    pub spans_on : (a b c : ℕ) (old mid new : List B) → a ≤ b → b ≤ c → Span state a b change touched old mid → Span state b c change touched mid new → Span state a c change touched old new
    spans_on a b c old mid new ab bc one next = record {
      count = next.count ∙ one.count;
      untouched = λ k before after is was not.
          let at = at_place mid k (omega (arith, slice_get_within old k before is, one.count)) in
          next.untouched k at.0 after at.1 was not ∙ one.untouched k before at.0 is at.1 not;
      each = λ k before after is was.
          let at = at_place mid k (omega (arith, slice_get_within old k before is, one.count)) in
          goes_on a b c (change k) (change k) (change k) (state before) (state at.0) (state after) ab bc (λ x y h. h) (two k) (one.each k before at.0 is at.1) (next.each k at.0 after at.1 was);
    }

-- none of them was given a later moment
pub last_moments : {B C : Type 0} (state : B → DeviceState C) (from to : ℕ) (change : ℕ → C → C → Type 0) (touched : ℕ → Type 0) (old new : List B) → Span state from to change touched old new
    → EachMember (λ k b. (state b).last ≤ to) new
last_moments state from to change touched old new span k after is =
    let at = at_place old k (omega (arith, slice_get_within new k after is, span.count)) in
    (span.each k at.0 after at.1 is).last
