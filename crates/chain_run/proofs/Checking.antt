-- In rules without a fault a `fail` has no argument, or a number.
use Rattle.std.proofs.Common.{◌≡◌, ℕ, ◌<◌, Bool, true, false, List, [], ◌∷◌, length, map, get_or, None, refl, sym, subst, arith, eqb-true}
use Rattle.std.specs.Prelude.{not, ◌&&◌, ◌||◌, ◌==◌, codes}
use Rattle.std.proofs.lemmas.List.{length-map}
use Rattle.std.specs.List.{flat_map}
use Rattle.grid_model.specs.RuleText as meaning
use Rattle.grid_model.specs.Parsed.{CallAt, Term, rule_of, step_of, call_of, plain_rule}
use Rattle.grid_model.specs.Checks.{Fault, first_fault, rules_faults, rule_faults, step_faults, call_faults, argument_faults, KnownNames, known_in, fault_if, is_service, service_takes}
use Rattle.grid_model.specs.declared.refusal.RuleCause.{RuleCause}
use Rattle.grid_model.specs.declared.refusal.RuleCause.TheVariants.{Arity}
use Rattle.grid_model.specs.declared.rules.Rule.{Rule}
use Rattle.grid_model.specs.declared.rules.Step.{Step}
use Rattle.grid_model.proofs.Comparing.{same_text-Decides}
use Rattle.chain_run.specs.Steps.{FitsFail, IsNumberOrNone}
use Rattle.chain_run.proofs.Lists.{both_empty, nothing_at, get_or-mapped}

no_fault : (fs : List Fault) → first_fault fs ≡ None → fs ≡ []
no_fault [] none = refl
no_fault (f ∷ fs) none = absurd (cc)

passes : (b : Bool) (place : ℕ) (cause : RuleCause) → fault_if (not b) place cause ≡ [] → b ≡ true
passes true place cause e = refl
passes false place cause e = absurd (cc)

few_by : (n : ℕ) (x y : Bool) → (0 == n) ≡ x → (1 == n) ≡ y → x || (y || false) ≡ true → n < 2
few_by n true y zero_is one_is e = let same : 0 ≡ n = eqb-true 0 n zero_is in omega arith
few_by n false true zero_is one_is e = let same : 1 ≡ n = eqb-true 1 n one_is in omega arith
few_by n false false zero_is one_is e = absurd (cc)

takes_few : (n : ℕ) → service_takes (codes "fail") n ≡ true → n < 2
takes_few n e = few_by n (0 == n) (1 == n) refl refl e

fits_args : (k : KnownNames) (place : ℕ) (args : List Term) → fault_if (is_service (codes "fail") && not (service_takes (codes "fail") (length args))) place Arity ≡ []
    → flat_map (argument_faults k (codes "fail")) args ≡ [] → IsNumberOrNone args
fits_args k place [] count each = tt
fits_args k place (e ∷ []) count each = passes _ _ _ (both_empty _ _ (both_empty _ _ each).0).0
fits_args k place (a ∷ b ∷ rest) count each =
    let few : length (a ∷ b ∷ rest) < 2 = takes_few (length (a ∷ b ∷ rest)) (passes _ _ _ count) in absurd (omega (arith, few))

call_fits : (rs : List meaning.Rule) (k : KnownNames) (c : CallAt) → call_faults rs k c ≡ [] → FitsFail c
call_fits rs k c none = record {
  fits = λ named.
      let name : c.name ≡ codes "fail" = (same_text-Decides c.name (codes "fail")).0 named in
      let parts = both_empty _ (flat_map (argument_faults k c.name) c.args) none in
      let count = (both_empty _ _ (both_empty _ _ (both_empty _ _ parts.0).0).0).1 in
      fits_args k c.place c.args
      (subst (λ n. fault_if (is_service n && not (service_takes n (length c.args))) c.place Arity ≡ []) name count)
      (subst (λ n. flat_map (argument_faults k n) c.args ≡ []) name parts.1);
}

pub step_fits : (rs : List Rule) (i j : ℕ) (r : Rule) (s : Step) → first_fault (rules_faults (map rule_of rs)) ≡ None → i < length rs → r ≡ get_or rs i r
    → j < length r.steps → s ≡ get_or r.steps j s → FitsFail (call_of s.call)
step_fits rs i j r s none in_rules is_rule in_steps is_step =
    let plain = map plain_rule (map rule_of rs) in
    let of_rule : rule_faults plain (rule_of r) ≡ [] =
    nothing_at (rule_faults plain) (map rule_of rs) i (rule_of r) (both_empty _ (flat_map (rule_faults plain) (map rule_of rs)) (no_fault _ none)).1
    (omega (arith, in_rules, length-map rs rule_of)) (sym (get_or-mapped rule_of rs i r (rule_of r) in_rules is_rule)) in
    let of_step : step_faults plain (known_in (rule_of r)) (step_of s) ≡ [] =
    nothing_at (step_faults plain (known_in (rule_of r))) (map step_of r.steps) j (step_of s)
    (both_empty _ (flat_map (step_faults plain (known_in (rule_of r))) (map step_of r.steps)) of_rule).1
    (omega (arith, in_steps, length-map r.steps step_of)) (sym (get_or-mapped step_of r.steps j s (step_of s) in_steps is_step)) in
    call_fits plain (known_in (rule_of r)) (call_of s.call) (both_empty (call_faults plain (known_in (rule_of r)) (call_of s.call)) _ of_step).0
