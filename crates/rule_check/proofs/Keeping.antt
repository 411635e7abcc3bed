-- The fault that counts of two lists of faults, one after the other.
use Rattle.std.proofs.Common.{◌≡◌, ℕ, ◌+◌, ◌<◌, Bool, true, false, ◌&&◌, ◌||◌, eqb, ltb, List, [], ◌∷◌, ◌++◌, length, get_or, map, take, Option, Some, None, refl, sym, ap, ◌∙◌, arith}
use Rattle.std.proofs.lemmas.Bool.Decides.{nat_tests}
use Rattle.std.proofs.lemmas.List.{flat_map_more, map-append, take_more}
use Rattle.std.specs.List.{flat_map}
use Rattle.grid_model.specs.Checks.{Fault, first_fault, sooner, comes_first, cause_rank}
use Rattle.rule_check.specs.Faults.{least}

-- the one of two that counts, the first where neither comes before the other
abbrev pick : Fault → Fault → Bool → Fault
pick f g b = elim b as (λ _. Fault) [ true ↦ g | false ↦ f ]

picks : (f g : Fault) (b : Bool) → comes_first g f ≡ b → sooner f (Some g) ≡ pick f g b
picks f g b e = ap (λ (t : Bool). pick f g t) e

pub least-none : (f : Fault) → Some f ≡ least None (f ∷ [])
unfolding least
least-none f = refl

pub least-first : (f g : Fault) → comes_first f g ≡ true → Some f ≡ least (Some g) (f ∷ [])
unfolding least
least-first f g e = ap Some (sym (picks g f true e))

pub least-later : (f g : Fault) → comes_first f g ≡ false → Some g ≡ least (Some g) (f ∷ [])
unfolding least
least-later f g e = ap Some (sym (picks g f false e))

pub least-nil : (b : Option Fault) → b ≡ least b []
unfolding least
least-nil None = refl
least-nil (Some f) = refl

-- ---- the order of faults

-- it is transitive, and so is its denial

before_trans : (p q r a b c : ℕ) → (ltb p q || (eqb p q && ltb a b)) ≡ true → (ltb q r || (eqb q r && ltb b c)) ≡ true → (ltb p r || (eqb p r && ltb a c)) ≡ true
before_trans p q r a b c h k = grind (arith, nat_tests)

not_before_trans : (p q r a b c : ℕ) → (ltb p q || (eqb p q && ltb a b)) ≡ false → (ltb q r || (eqb q r && ltb b c)) ≡ false → (ltb p r || (eqb p r && ltb a c)) ≡ false
not_before_trans p q r a b c h k = grind (arith, nat_tests)

-- ---- joining

-- the one that counts of two choices
abbrev better : Option Fault → Option Fault → Option Fault
better None b = b
better (Some f) b = Some (sooner f b)

three : (f g h : Fault) (gf hg : Bool) → comes_first g f ≡ gf → comes_first h g ≡ hg → sooner (sooner f (Some g)) (Some h) ≡ sooner f (Some (sooner g (Some h)))
three f g h true true e k =
    let hf : comes_first h f ≡ true = before_trans h.0 g.0 f.0 (cause_rank h.1) (cause_rank g.1) (cause_rank f.1) k e in
    ap (λ x. sooner x (Some h)) (picks f g true e) ∙ picks g h true k ∙ sym (ap (λ x. sooner f (Some x)) (picks g h true k) ∙ picks f h true hf)
three f g h true false e k =
    ap (λ x. sooner x (Some h)) (picks f g true e) ∙ picks g h false k ∙ sym (ap (λ x. sooner f (Some x)) (picks g h false k) ∙ picks f g true e)
three f g h false true e k =
    ap (λ x. sooner x (Some h)) (picks f g false e) ∙ sym (ap (λ x. sooner f (Some x)) (picks g h true k))
three f g h false false e k =
    let hf : comes_first h f ≡ false = not_before_trans h.0 g.0 f.0 (cause_rank h.1) (cause_rank g.1) (cause_rank f.1) k e in
    ap (λ x. sooner x (Some h)) (picks f g false e) ∙ picks f h false hf ∙ sym (ap (λ x. sooner f (Some x)) (picks g h false k) ∙ picks f g false e)

joined : (f : Fault) (a b : Option Fault) → sooner f (better a b) ≡ sooner (sooner f a) b
joined f None b = refl
joined f (Some g) None = refl
joined f (Some g) (Some h) = sym (three f g h (comes_first g f) (comes_first h g) refl refl)

first-append : (xs ys : List Fault) → first_fault (xs ++ ys) ≡ better (first_fault xs) (first_fault ys)
first-append [] ys = refl
first-append (f ∷ xs) ys = ap Some (ap (sooner f) (first-append xs ys) ∙ joined f (first_fault xs) (first_fault ys))

by_first : (a : Option Fault) (ys : List Fault) → better a (first_fault ys) ≡ least a ys
unfolding least
by_first None ys = refl
by_first (Some f) ys = refl

-- faults that are found one after another are found at once
pub least-append : (b : Option Fault) (xs ys : List Fault) → least b (xs ++ ys) ≡ least (least b xs) ys
unfolding least
least-append None xs ys = first-append xs ys ∙ by_first (first_fault xs) ys
least-append (Some f) xs ys = ap Some (ap (sooner f) (first-append xs ys) ∙ joined f (first_fault xs) (first_fault ys))

-- what is found, joined
pub ruleset keeping = (least-append, least-nil)

-- one more of a list, each with its faults
pub keep_more : {X Y : Type 0} (g : X → Y) (f : Y → List Fault) (b now new : Option Fault) (xs : List X) (i : ℕ) (x : X) → i < length xs → x ≡ get_or xs i x
    → now ≡ least b (flat_map f (map g (take i xs))) → new ≡ least now (f (g x)) → new ≡ least b (flat_map f (map g (take (i + 1) xs)))
keep_more g f b now new xs i x lt is so_far step =
    step
    ∙ ap (λ o. least o (f (g x))) so_far
    ∙ sym (least-append b (flat_map f (map g (take i xs))) (f (g x)))
    ∙ ap (least b)
    (flat_map_more f [] (map g (take i xs)) (g x)
    ∙ ap (flat_map f) (sym (map-append g (take i xs) (x ∷ [])) ∙ ap (map g) (ap (λ y. take i xs ++ y ∷ []) is ∙ sym (take_more xs i x lt))))
