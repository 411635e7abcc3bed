-- A step with computed arguments.
use Rattle.std.proofs.Common.{◌≡◌, ◌<◌, ◌^◌, true, false, List, [], ◌∷◌, Option, Some, None, map, sym, ap, ◌∙◌, subst}
use Rattle.std.specs.Prelude.{◌&&◌, option_map}
use Rattle.grid_model.specs.Grid.{Grid}
use Rattle.grid_model.specs.Parsed.{call_of, step_of, plain_call, plain_step}
use Rattle.grid_model.specs.Values.{is_short, value}
use Rattle.grid_model.specs.Chains.{doing, failing, fixed_recovery, all_short}
use Rattle.grid_model.specs.declared.calls.Call.{Call}
use Rattle.grid_model.specs.declared.rules.Call0.{Call0}
use Rattle.grid_model.specs.declared.rules.Step.{Step}
use Rattle.rule_cond.specs.Scopes.{HasScopeSize, scope_seen, computed_on}
use Rattle.rule_cond.specs.declared.scope.Scope.{Scope}
use Rattle.chain_core.specs.Answers.{IsCoded}
use Rattle.chain_core.specs.declared.actions.Event.TheVariants as event
use Rattle.chain_run.specs.Steps.{FitsFail, IsStep, FitsInt64Alone, terms_of}
use Rattle.chain_run.proofs.Coding.{is_coded}

module _ (s : Scope) (g : Grid) (has : HasScopeSize s g) (fits : s.size < 2 ^ 64) (step : Step) where
  coded : (c : Call) → FitsFail (call_of step.call) → FitsInt64Alone (terms_of step.call.args) → c ≡ computed_on s g step.call
      → doing c ≡ failing → IsCoded (map (value (scope_seen s) g) (plain_call (call_of step.call)).args)
  coded c fail written is e =
      is_coded (scope_seen s) g (subst (λ n. n < 2 ^ 64) (sym has.size) fits) (call_of step.call) fail written (subst (λ d. doing d ≡ failing) is e)

  own : (r : Option Call0) → List Call
  own r = fixed_recovery (scope_seen s) g (option_map plain_call (option_map call_of r))

  own_is : (r : Option Call0) → step.recovery ≡ r → fixed_recovery (scope_seen s) g (plain_step (step_of step)).recovery ≡ own r
  unfolding own
  own_is r is = ap (λ x. fixed_recovery (scope_seen s) g (option_map plain_call (option_map call_of x))) is

  -- one without a recovery
  pub step_alone : (c : Call) → step.recovery ≡ None → FitsFail (call_of step.call) → FitsInt64Alone (terms_of step.call.args) → c ≡ computed_on s g step.call
      → is_short c ≡ true → IsStep (scope_seen s) g (plain_step (step_of step)) (event.Computed c None)
  unfolding own
  step_alone c none fail written is short = record {
    is_call = sym is;
    is_own = own_is None none;
    short = ap (λ b. b && true) short;
    coded = coded c fail written is;
  }

  -- one with a recovery
  pub step_with : (c r : Call) (recovery : Call0) → step.recovery ≡ Some recovery → FitsFail (call_of step.call) → FitsInt64Alone (terms_of step.call.args)
      → c ≡ computed_on s g step.call → is_short c ≡ true → r ≡ computed_on s g recovery → is_short r ≡ true
      → IsStep (scope_seen s) g (plain_step (step_of step)) (event.Computed c (Some r))
  unfolding own
  step_with c r recovery some fail written is short r_is r_short = record {
    is_call = sym is;
    is_own = own_is (Some recovery) some ∙ ap (λ x. x ∷ []) (sym r_is);
    short = ap (λ b. b && (is_short r && true)) short ∙ ap (λ b. b && true) r_short;
    coded = coded c fail written is;
  }

  -- its own argument is too long
  pub step_long : is_short (computed_on s g step.call) ≡ false → IsStep (scope_seen s) g (plain_step (step_of step)) event.LongText
  step_long long = ap (λ b. b && all_short (fixed_recovery (scope_seen s) g (plain_step (step_of step)).recovery)) long

  -- one of its recovery is too long
  pub recovery_long : (c : Call) (recovery : Call0) → step.recovery ≡ Some recovery → c ≡ computed_on s g step.call → is_short c ≡ true
      → is_short (computed_on s g recovery) ≡ false → IsStep (scope_seen s) g (plain_step (step_of step)) event.LongText
  unfolding own
  recovery_long c recovery some is short long =
      ap (λ cs. is_short (computed_on s g step.call) && all_short cs) (own_is (Some recovery) some)
      ∙ ap (λ b. b && (is_short (computed_on s g recovery) && true)) (ap is_short (sym is) ∙ short)
      ∙ ap (λ b. b && true) long
