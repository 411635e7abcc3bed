-- How steps, chains and the rules of a name begin.
use Rattle.std.proofs.Common.{◌≡◌, ℕ, zero, suc, Bool, true, false, List, [], ◌∷◌, ◌++◌, Option, Some, None, refl, ap}
use Rattle.std.specs.Prelude.{◌&&◌, codes, map}
use Rattle.grid_model.specs.Names.{Text, same_text}
use Rattle.grid_model.specs.RuleText.{Rule, Step}
use Rattle.grid_model.specs.Meanings.{Meaning, gives, ◌>>=◌, behind, mapped}
use Rattle.grid_model.specs.Values.{Env, Scope, Value, value, holds, computed, is_short}
use Rattle.grid_model.specs.Services.{Service, service}
use Rattle.grid_model.specs.Doing.{Course, do_service, do_call, back}
use Rattle.grid_model.specs.Chains.{Outcome, Named, Caller, Stepped, Chained, Doing, goes_on, cuts, succeeds, fails}
use Rattle.grid_model.specs.Chains.{ended_well, failed, halted, none_applied, from_did, from_outcome, from_named}
use Rattle.grid_model.specs.Chains.{cutting, succeeding, failing, serving, naming, serves, doing, do_as, do_step, code_of}
use Rattle.grid_model.specs.Chains.{has_budget, begin_step, counted, fixed_recovery, all_short, undone, after_step, chain}
use Rattle.grid_model.specs.Chains.{after_chain, scope_of, try_rules, rules_named, call_within}
use Rattle.grid_model.specs.declared.calls.Call.{Call}
use Rattle.grid_model.specs.declared.marks.Mark.{Mark}
use Rattle.grid_model.specs.declared.refusal.Failure.{Failure}
use Rattle.grid_model.specs.declared.refusal.Failure.TheVariants.{Code, Depth, Spent, LongText}
use Rattle.chain_laws.proofs.Beginnings.{Begins, at_once, begins_as, begins_behind, begins_mapped, begins_then}
use Rattle.chain_laws.proofs.Beginnings.{chain_with, did_with, named_with, step_with, with_marks}
use Rattle.chain_laws.proofs.Recoveries.{begins_back, begins_call}

-- ---- what a step is

by_names : (cut succeed fail : Bool) (o : Option Service) (x : Service)
    → ◌≡◌ {A = Doing} (elim cut [
      | true ↦ cutting
      | false ↦ elim succeed [ true ↦ succeeding | false ↦ elim fail [ true ↦ failing | false ↦ serves o ] ]
    ]) (serving x)
    → o ≡ Some x
by_names true succeed fail o x e = absurd cc
by_names false true fail o x e = absurd cc
by_names false false true o x e = absurd cc
by_names false false false (Some y) x e = cc
by_names false false false None x e = absurd cc

-- where a step is a micro-service its call is that
pub serving_is : (c : Call) (x : Service) → doing c ≡ serving x → service c ≡ Some x
serving_is c x e =
    by_names (same_text c.name (codes "cut")) (same_text c.name (codes "succeed")) (same_text c.name (codes "fail")) (service c) x e

-- ---- steps

-- a caller begins so, whatever it is to call
abbrev pub CallerBegins : Caller → Text → Type 0
CallerBegins caller user = (name : Text) (args : List Text) (s : Course) → Begins named_with user (λ marks. caller name args (with_marks marks s))

from_did_with : (marks : List Mark) (s : Course) (f : Option Failure)
    → from_did (record { state = with_marks marks s; failure = f }) ≡ step_with marks (from_did (record { state = s; failure = f }))
from_did_with marks s None = refl
from_did_with marks s (Some f) = refl

from_outcome_with : (marks : List Mark) (s : Course) (o : Outcome) → from_outcome (with_marks marks s) o ≡ step_with marks (from_outcome s o)
from_outcome_with marks s ended_well = refl
from_outcome_with marks s (failed f) = refl
from_outcome_with marks s (halted f) = refl
from_outcome_with marks s none_applied = refl

pub begins_named : (user : Text) (does : List Mark → Meaning Named) → Begins named_with user does
    → Begins step_with user (λ marks. mapped from_named (does marks))
begins_named user does h = begins_mapped named_with step_with user does from_named (λ marks n. from_outcome_with marks n.state n.outcome) h

module _ (caller : Caller) (user : Text) (calls : CallerBegins caller user) where
  begins_doing : (vs : List Value) (c : Call) (s : Course) (d : Doing) → doing c ≡ d
      → Begins step_with user (λ marks. do_as d caller user vs c (with_marks marks s))
  begins_doing vs c s cutting is = at_once (cuts s) (λ later. refl)
  begins_doing vs c s succeeding is = at_once (succeeds s) (λ later. refl)
  begins_doing vs c s failing is = at_once (fails s (Code (code_of vs)) false) (λ later. refl)
  begins_doing vs c s (serving x) is =
      begins_mapped did_with step_with user (λ marks. do_service c user (Some x) (with_marks marks s)) from_did
      (λ marks did. from_did_with marks did.state did.failure)
      (begins_as did_with user (λ marks. do_call user c (with_marks marks s)) (λ marks. do_service c user (Some x) (with_marks marks s))
      (λ marks. ap (λ y. do_service c user y (with_marks marks s)) (serving_is c x is)) (begins_call user c s))
  begins_doing vs c s naming is = begins_named user (λ marks. caller c.name c.args (with_marks marks s)) (calls c.name c.args s)

  pub begins_step : (vs : List Value) (c : Call) (s : Course) → Begins step_with user (λ marks. begin_step caller user vs c (with_marks marks s))
  begins_step vs c s = by_budget (has_budget s)
    where
      by_budget : (b : Bool)
          → Begins step_with user (λ marks. elim b [
            | true ↦ do_step caller user vs c (with_marks marks s)
            | false ↦ gives (fails (with_marks marks s) Spent true)
          ])
      by_budget true = begins_doing vs c s (doing c) refl
      by_budget false = at_once (fails s Spent true) (λ later. refl)

  -- ---- chains

  -- how the rest of a chain begins
  abbrev pub RestBegins : (Bool → Course → Meaning Chained) → Type 0
  RestBegins rest = (cut : Bool) (s : Course) → Begins chain_with user (λ marks. rest cut (with_marks marks s))

  pub begins_undone : (f : Failure) (halts cut : Bool) (fixed : List Call) (s : Course)
      → Begins chain_with user (λ marks. mapped (undone f halts cut) (back user fixed (with_marks marks s)))
  begins_undone f halts cut fixed s =
      begins_mapped with_marks chain_with user (λ marks. back user fixed (with_marks marks s)) (undone f halts cut) (λ marks t. refl) (begins_back user fixed s)

  pub begins_after : (fixed : List Call) (cut : Bool) (rest : Bool → Course → Meaning Chained) → RestBegins rest → (x : Stepped)
      → Begins chain_with user (λ marks. after_step user fixed cut rest (step_with marks x))
  begins_after fixed cut rest goes (goes_on s) = goes cut s
  begins_after fixed cut rest goes (cuts s) = goes true s
  begins_after fixed cut rest goes (succeeds s) = at_once (record { state = s; outcome = ended_well; cut = cut }) (λ later. refl)
  begins_after fixed cut rest goes (fails s f halts) = begins_undone f halts cut fixed s

  pub begins_chain : (scope : Scope) (steps : List Step) (fixed : List Call) → RestBegins (chain caller user scope steps fixed)
  begins_chain scope [] fixed cut s = at_once (record { state = s; outcome = ended_well; cut = cut }) (λ later. refl)
  begins_chain scope (step ∷ steps) fixed cut s = by_short (begins_chain scope steps) (is_short c && all_short own)
    where
      own : List Call
      own = fixed_recovery scope s.grid step.recovery

      c : Call
      c = computed scope s.grid step.call

      vs : List Value
      vs = map (value scope s.grid) step.call.args

      all : List Call
      all = fixed ++ own

      rest : Bool → Course → Meaning Chained
      rest = chain caller user scope steps all

      by_short : ((fixed : List Call) → RestBegins (chain caller user scope steps fixed)) → (b : Bool) → Begins chain_with user (λ marks. elim b [
        | false ↦ mapped (undone LongText false cut) (back user fixed (counted (with_marks marks s)))
        | true ↦ behind all (begin_step caller user vs c (counted (with_marks marks s))) >>= after_step user all cut rest
      ])
      by_short goes false = begins_undone LongText false cut fixed (counted s)
      by_short goes true =
          begins_then step_with chain_with user (λ marks. behind all (begin_step caller user vs c (with_marks marks (counted s))))
          (after_step user all cut rest)
          (begins_behind step_with user all (λ marks. begin_step caller user vs c (with_marks marks (counted s))) (begins_step vs c (counted s)))
          (begins_after all cut rest (goes all))

  -- ---- the rules of a name

  -- how it begins where the last chain ended so
  abbrev pub NextBegins : (Outcome → Course → Meaning Named) → Type 0
  NextBegins next = (o : Outcome) (s : Course) → Begins named_with user (λ marks. next o (with_marks marks s))

  pub begins_next : (next : Outcome → Course → Meaning Named) → NextBegins next → (s : Course) (o : Outcome) (cut : Bool)
      → Begins named_with user (λ marks. after_chain next (record { state = with_marks marks s; outcome = o; cut = cut }))
  begins_next next goes s ended_well cut = at_once (record { state = s; outcome = ended_well }) (λ later. refl)
  begins_next next goes s (failed f) true = at_once (record { state = s; outcome = failed f }) (λ later. refl)
  begins_next next goes s (failed f) false = goes (failed f) s
  begins_next next goes s (halted f) cut = at_once (record { state = s; outcome = halted f }) (λ later. refl)
  begins_next next goes s none_applied cut = goes none_applied s

pub begins_rules : (caller : Caller) (env : Env) → CallerBegins caller env.user → (args : List Text) (rules : List Rule) (last : Outcome) (s : Course)
    → Begins named_with env.user (λ marks. try_rules caller env args rules last (with_marks marks s))
begins_rules caller env calls args [] last s = at_once (record { state = s; outcome = last }) (λ later. refl)
begins_rules caller env calls args (r ∷ rules) last s = by_cond (begins_rules caller env calls args rules) (holds (scope_of env args r) s.grid r.cond)
  where
    next : Outcome → Course → Meaning Named
    next = try_rules caller env args rules

    steps : Course → Meaning Chained
    steps t = chain caller env.user (scope_of env args r) r.steps [] false t

    by_cond : ((o : Outcome) (t : Course) → Begins named_with env.user (λ marks. next o (with_marks marks t))) → (b : Bool)
        → Begins named_with env.user (λ marks. elim b [ true ↦ steps (with_marks marks s) >>= after_chain next | false ↦ next last (with_marks marks s) ])
    by_cond goes true =
        begins_then chain_with named_with env.user (λ marks. steps (with_marks marks s)) (after_chain next)
        (begins_chain caller env.user calls (scope_of env args r) r.steps [] false s)
        (λ e. begins_next caller env.user calls next goes e.state e.outcome e.cut)
    by_cond goes false = goes last s

-- a call of rules, which may go so much deeper
pub begins_within : (d : ℕ) (rules : List Rule) (env : Env) → CallerBegins (call_within d rules env) env.user
begins_within zero rules env name args s = at_once (record { state = s; outcome = failed Depth }) (λ later. refl)
begins_within (suc d) rules env name args s =
    begins_rules (call_within d rules env) env (begins_within d rules env) args (rules_named rules name) none_applied s
