-- Lists that are looked at by places.
use Rattle.std.proofs.Common.{◌≡◌, ℕ, zero, suc, ◌<◌, List, [], ◌∷◌, ◌++◌, length, map, get_or, refl, sym, ap, ◌∙◌, subst, arith}
use Rattle.std.proofs.lemmas.List.{length-map}
use Rattle.std.specs.List.{flat_map}
use Rattle.grid_model.specs.Parsed.{plain_rule, plain_step, rule_of, step_of}
use Rattle.grid_model.specs.declared.rules.Rule.{Rule}
use Rattle.grid_model.specs.declared.rules.Step.{Step}
use Rattle.chain_core.specs.Answers.{step_at, no_step}
use Rattle.chain_core.specs.Rest.{rule_at, no_rule}
use Rattle.chain_core.specs.Seen.{plain_rules}

-- what stands at a place of a list that was mapped
pub get_or-mapped : {A B : Type 0} (f : A → B) (xs : List A) (i : ℕ) (x : A) (d : B) → i < length xs → x ≡ get_or xs i x → get_or (map f xs) i d ≡ f x
get_or-mapped f [] i x d below is = absurd (omega (arith, below))
get_or-mapped f (y ∷ ys) zero x d below is = ap f (sym is)
get_or-mapped f (y ∷ ys) (suc i) x d below is = get_or-mapped f ys i x d (omega (arith, below)) is

-- where both parts together are empty each is
pub both_empty : {A : Type 0} (xs ys : List A) → xs ++ ys ≡ [] → (xs ≡ []) × (ys ≡ [])
both_empty [] ys e = (refl, e)
both_empty (x ∷ xs) ys e = absurd (cc)

-- nothing comes of any item of a list of which nothing comes
pub nothing_at : {A B : Type 0} (f : A → List B) (xs : List A) (i : ℕ) (x : A) → flat_map f xs ≡ [] → i < length xs → x ≡ get_or xs i x → f x ≡ []
nothing_at f [] i x none below is = absurd (omega (arith, below))
nothing_at f (y ∷ ys) zero x none below is = ap f is ∙ (both_empty (f y) (flat_map f ys) none).0
nothing_at f (y ∷ ys) (suc i) x none below is = nothing_at f ys i x (both_empty (f y) (flat_map f ys) none).1 (omega (arith, below)) is

-- ---- rules and their steps

-- a place of a step is one in a rule
pub in_rules : (rs : List Rule) (i j : ℕ) → j < length (rule_at (plain_rules rs) i).steps → i < length rs
in_rules [] zero j h = absurd (omega (arith, h))
in_rules [] (suc i) j h = absurd (omega (arith, h))
in_rules (r ∷ rs) zero j h = omega arith
in_rules (r ∷ rs) (suc i) j h = let below : i < length rs = in_rules rs i j h in omega arith

rule_is : (rs : List Rule) (i : ℕ) (r : Rule) → i < length rs → r ≡ get_or rs i r → rule_at (plain_rules rs) i ≡ plain_rule (rule_of r)
rule_is rs i r below is = get_or-mapped (λ x. plain_rule (rule_of x)) rs i r no_rule below is

pub in_steps : (rs : List Rule) (i j : ℕ) (r : Rule) → r ≡ get_or rs i r → j < length (rule_at (plain_rules rs) i).steps → j < length r.steps
in_steps rs i j r is h =
    let steps : j < length (map plain_step (map step_of r.steps)) = subst (λ x. j < length x.steps) (rule_is rs i r (in_rules rs i j h) is) h in
    omega (arith, steps, length-map (map step_of r.steps) plain_step, length-map r.steps step_of)

-- the step of a place
pub at_step : (rs : List Rule) (i j : ℕ) (r : Rule) (s : Step) → r ≡ get_or rs i r → s ≡ get_or r.steps j s → j < length (rule_at (plain_rules rs) i).steps
    → plain_step (step_of s) ≡ step_at (rule_at (plain_rules rs) i) j
at_step rs i j r s r_is s_is h =
    let below : j < length r.steps = in_steps rs i j r r_is h in
    sym (ap (λ x. step_at x j) (rule_is rs i r (in_rules rs i j h) r_is)
    ∙ get_or-mapped plain_step (map step_of r.steps) j (step_of s) no_step (omega (arith, below, length-map r.steps step_of))
    (sym (get_or-mapped step_of r.steps j s (step_of s) below s_is)))
