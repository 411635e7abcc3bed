-- What the text of a call is read as, and what its arguments come to.
use Rattle.std.proofs.Common.{◌≡◌, ◌⊎◌, inl, inr, ℕ, ◌<◌, Bool, true, false, List, [], ◌∷◌, length, map, None, Some, Ok, Err, refl, sym, ap, ◌∙◌, subst, arith}
use Rattle.std.proofs.Common.{eqb-true}
use Rattle.std.specs.Prelude.{not, ◌&&◌, ◌||◌, ◌==◌, codes, Option, Result, IfOk, IsTrue, MatchResult, IsErrOf, ⊤}
use Rattle.std.specs.List.{flat_map}
use Rattle.std.proofs.lemmas.Simd.{map-map}
use Rattle.grid_model.specs.Chains.{doing, failing}
use Rattle.grid_model.specs.Checks.{Fault, KnownNames, argument_faults, call_faults, checked_call, exec_faults, fault_if, first_fault, is_service}
use Rattle.grid_model.specs.Checks.{service_takes}
use Rattle.grid_model.specs.Completing.{IsOfGrid}
use Rattle.grid_model.specs.Grid.{Grid}
use Rattle.grid_model.specs.Names.{Text}
use Rattle.grid_model.specs.Obeying.{exec_scope, no_env}
use Rattle.grid_model.specs.Parsed.{CallAt, Term, call_of, plain_call, plain_rule, rule_of}
use Rattle.grid_model.specs.Refusing.{Or}
use Rattle.grid_model.specs.RuleText.{CallText, Expr, Rule as RuleOf}
use Rattle.grid_model.specs.Values as values
use Rattle.grid_model.specs.Values.{computed, is_short, size_now, text_of, value}
use Rattle.grid_model.specs.declared.calls.Call.{Call}
use Rattle.grid_model.specs.declared.plans.PlanError.{PlanError}
use Rattle.grid_model.specs.declared.plans.PlanError.TheVariants as plan
use Rattle.grid_model.specs.declared.refusal.Refusal.{Refusal}
use Rattle.grid_model.specs.declared.refusal.Refusal.TheVariants as refusal
use Rattle.grid_model.specs.declared.refusal.RuleCause.{RuleCause}
use Rattle.grid_model.specs.declared.refusal.RuleCause.TheVariants.{Arity}
use Rattle.grid_model.specs.declared.rules.Call0.{Call0}
use Rattle.grid_model.specs.declared.rules.Rule.{Rule}
use Rattle.grid_model.proofs.Comparing.{same_text-Decides}
use Rattle.chain_core.specs.Seen.{plain_rules}
use Rattle.chain_run.specs.Steps.{FitsFail, FitsInt64Alone, IsNumberOrNone, terms_of}
use Rattle.chain_run.proofs.Coding.{is_coded}
use Rattle.chain_run.proofs.Lists.{both_empty}
use Rattle.rule_check.specs.Tables.{without_places}
use Rattle.rule_check.specs.declared.error.RuleError.{RuleError as CheckError}
use Rattle.rule_check.specs.declared.error.RuleError.TheVariants as check
use Rattle.rule_cond.specs.Scopes.{HasScopeSize, computed_on, env_of, scope_seen}
use Rattle.rule_cond.specs.declared.error.ComputeError.{ComputeError}
use Rattle.rule_cond.specs.declared.error.ComputeError.TheVariants as compute
use Rattle.rule_cond.specs.declared.scope.Scope.{Scope}
use Rattle.rule_parse.specs.Grammar.{SpellsCall}
use Rattle.rule_parse.specs.RuleOrders.{ReadsCall, no_call, this}
use Rattle.rule_parse.specs.RuleTexts.{IsRefusedText, IsTextOf}
use Rattle.rule_parse.specs.declared.error.RuleError.{RuleError}
use Rattle.rule_parse.specs.declared.error.RuleError.TheVariants as parse
use Rattle.cmd_run.specs.Calls.{IsComputed, IsReadSo, unchecked, unread}

-- ---- how it is read

bad_again : (at place : ℕ) (cause why : RuleCause) → (parse.BadRule at cause ≡ parse.BadRule place why) ⊎ (parse.BadRule at cause ≡ parse.Memory)
    → ◌≡◌ {A = Or CallText} (Err (refusal.BadRule place why)) (Err (refusal.BadRule at cause))
bad_again at place cause why (inl e) = cc
bad_again at place cause why (inr e) = cc

module _ (rules : List RuleOf) (text : Text) (result : Result Call0 RuleError)
    (only : (c : CallAt) → IsTextOf SpellsCall text c → MatchResult result (λ found. call_of found ≡ c) (λ e. e ≡ parse.Memory))
    (refused : (at : ℕ) (cause : RuleCause) → IsRefusedText SpellsCall text at cause → MatchResult result (λ found. ⊥)
    (λ e. (e ≡ parse.BadRule at cause) ⊎ (e ≡ parse.Memory))) where
  -- refused at a place it is refused there
  bad_there : (at : ℕ) (cause : RuleCause) → result ≡ Err (parse.BadRule at cause) → (call : Or CallText) → ReadsCall rules text call
      → call ≡ Err (refusal.BadRule at cause)
  bad_there at cause is call (this c spells same) =
      let M : Result Call0 RuleError → Type 0 = λ r. MatchResult r (λ found. call_of found ≡ c) (λ e. e ≡ parse.Memory) in
      let no : parse.BadRule at cause ≡ parse.Memory = subst M is (only c spells) in
      absurd (cc no)
  bad_there at cause is call (no_call {place = place} {cause = why} refuses) =
      let M : Result Call0 RuleError → Type 0 = λ r. MatchResult r (λ found. ⊥) (λ e. (e ≡ parse.BadRule place why) ⊎ (e ≡ parse.Memory)) in
      bad_again at place cause why (subst M is (refused place why refuses))

  pub read_bad : (e : RuleError) (x : PlanError) → result ≡ Err e → x ≡ unread e → (call : Or CallText) → ReadsCall rules text call → IsReadSo call (Err x)
  read_bad (parse.BadRule at cause) x is x_is call reads =
      let R : PlanError → Type 0 = λ y. IsReadSo call (Err y) in subst R (sym x_is) (bad_there at cause is call reads)
  read_bad parse.Memory x is x_is call reads = let R : PlanError → Type 0 = λ y. IsReadSo call (Err y) in subst R (sym x_is) tt

  -- read as a call it is that one, once it is looked at
  pub read_good : (found : Call0) → result ≡ Ok found → (call : Or CallText) → ReadsCall rules text call → call ≡ checked_call rules (call_of found)
  read_good found is call (this c spells same) =
      let M : Result Call0 RuleError → Type 0 = λ r. MatchResult r (λ x. call_of x ≡ c) (λ e. e ≡ parse.Memory) in
      same ∙ ap (checked_call rules) (sym (subst M is (only c spells)))
  read_good found is call (no_call {place = place} {cause = why} refuses) =
      let M : Result Call0 RuleError → Type 0 = λ r. MatchResult r (λ x. ⊥) (λ e. (e ≡ parse.BadRule place why) ⊎ (e ≡ parse.Memory)) in
      absurd (subst M is (refused place why refuses))

module _ (rules : List Rule) (c : CallAt) where
  abbrev by_fault : Option Fault → Or CallText
  by_fault o = elim o [ None ↦ Ok (plain_call c) | Some f ↦ Err (refusal.BadRule f.0 f.1) ]

  first_is : first_fault (exec_faults (plain_rules rules) c) ≡ first_fault (exec_faults (without_places rules) c)
  first_is = ap (λ rs. first_fault (exec_faults rs c)) (sym (map-map plain_rule rule_of rules))

  pub checked_good : first_fault (exec_faults (without_places rules) c) ≡ None → checked_call (plain_rules rules) c ≡ Ok (plain_call c)
  checked_good e = ap by_fault (first_is ∙ e)

  bad_by : (e : CheckError) → ((at : ℕ) (cause : RuleCause) → e ≡ check.Bad at cause → first_fault (exec_faults (without_places rules) c) ≡ Some (at, cause))
      → (call : Or CallText) → call ≡ checked_call (plain_rules rules) c → IsReadSo call (Err (unchecked e))
  bad_by (check.Bad at cause) says call is = is ∙ ap by_fault (first_is ∙ says at cause refl)
  bad_by check.Memory says call is = tt

  pub checked_bad : (result : Result ⊤ CheckError) (e : CheckError) (x : PlanError) → result ≡ Err e → x ≡ unchecked e
      → ((at : ℕ) (cause : RuleCause) → IsErrOf result (check.Bad at cause) → first_fault (exec_faults (without_places rules) c) ≡ Some (at, cause))
      → (call : Or CallText) → call ≡ checked_call (plain_rules rules) c → IsReadSo call (Err x)
  checked_bad result e x is x_is says call reads =
      let R : PlanError → Type 0 = λ y. IsReadSo call (Err y) in
      subst R (sym x_is) (bad_by e (λ at cause same. says at cause (is ∙ ap Err same)) call reads)

-- the place and the cause are no mark's
of_grid : (e x : PlanError) (r : Refusal) → e ≡ x → (IsErrOf {T = Call0} {E = PlanError} (Err x) (plan.Refused r) → IsOfGrid r)
    → IsErrOf {T = Call0} {E = PlanError} (Err e) (plan.Refused r) → IsOfGrid r
of_grid e x r same its is = its (ap Err (sym same) ∙ is)

pub unread_of_grid : (e : RuleError) (x : PlanError) → x ≡ unread e → (r : Refusal) → IsErrOf {T = Call0} {E = PlanError} (Err x) (plan.Refused r) → IsOfGrid r
unread_of_grid (parse.BadRule at cause) x same r =
    of_grid x (plan.Refused (refusal.BadRule at cause)) r same (λ e. let this_one : refusal.BadRule at cause ≡ r = cc in subst IsOfGrid this_one tt)
unread_of_grid parse.Memory x same r = of_grid x plan.Memory r same (λ e. cc)

pub unchecked_of_grid : (e : CheckError) (x : PlanError) → x ≡ unchecked e → (r : Refusal) → IsErrOf {T = Call0} {E = PlanError} (Err x) (plan.Refused r)
    → IsOfGrid r
unchecked_of_grid (check.Bad at cause) x same r =
    of_grid x (plan.Refused (refusal.BadRule at cause)) r same (λ e. let this_one : refusal.BadRule at cause ≡ r = cc in subst IsOfGrid this_one tt)
unchecked_of_grid check.Memory x same r = of_grid x plan.Memory r same (λ e. cc)

-- ---- a `fail` has no argument, or a number

no_fault : (fs : List Fault) → first_fault fs ≡ None → fs ≡ []
no_fault [] none = refl
no_fault (f ∷ fs) none = absurd (cc)

passes : (b : Bool) (place : ℕ) (cause : RuleCause) → fault_if (not b) place cause ≡ [] → b ≡ true
passes true place cause e = refl
passes false place cause e = absurd (cc)

few_by : (n : ℕ) (x y : Bool) → (0 == n) ≡ x → (1 == n) ≡ y → x || (y || false) ≡ true → n < 2
few_by n true y zero_is one_is e = let same : 0 ≡ n = eqb-true 0 n zero_is in omega arith
few_by n false true zero_is one_is e = let same : 1 ≡ n = eqb-true 1 n one_is in omega arith
few_by n false false zero_is one_is e = absurd (cc)

takes_few : (n : ℕ) → service_takes (codes "fail") n ≡ true → n < 2
takes_few n e = few_by n (0 == n) (1 == n) refl refl e

fits_args : (k : KnownNames) (place : ℕ) (args : List Term)
    → fault_if (is_service (codes "fail") && not (service_takes (codes "fail") (length args))) place Arity ≡ []
    → flat_map (argument_faults k (codes "fail")) args ≡ [] → IsNumberOrNone args
fits_args k place [] count each = tt
fits_args k place (e ∷ []) count each = passes _ _ _ (both_empty _ _ (both_empty _ _ each).0).0
fits_args k place (a ∷ b ∷ rest) count each =
    let few : length (a ∷ b ∷ rest) < 2 = takes_few (length (a ∷ b ∷ rest)) (passes _ _ _ count) in absurd (omega (arith, few))

call_fits : (rs : List RuleOf) (k : KnownNames) (c : CallAt) → call_faults rs k c ≡ [] → FitsFail c
call_fits rs k c none = record {
  fits = λ named.
      let name : c.name ≡ codes "fail" = (same_text-Decides c.name (codes "fail")).0 named in
      let parts = both_empty _ (flat_map (argument_faults k c.name) c.args) none in
      let count = (both_empty _ _ (both_empty _ _ (both_empty _ _ parts.0).0).0).1 in
      fits_args k c.place c.args
      (subst (λ n. fault_if (is_service n && not (service_takes n (length c.args))) c.place Arity ≡ []) name count)
      (subst (λ n. flat_map (argument_faults k n) c.args ≡ []) name parts.1);
}

pub exec_fits : (rules : List RuleOf) (c : CallAt) → first_fault (exec_faults rules c) ≡ None → FitsFail c
exec_fits rules c none = call_fits rules (record { params = []; sessions = codes "userNameClient" ∷ [] }) c (no_fault (exec_faults rules c) none)

-- ---- its arguments

texts_of : (f : Expr → values.Value) (es : List Expr) → map (λ e. text_of (f e)) es ≡ map text_of (map f es)
texts_of f [] = refl
texts_of f (e ∷ es) = ap (λ ts. text_of (f e) ∷ ts) (texts_of f es)

module _ (s : Scope) (user : Text) (env_is : env_of s.env.now ≡ no_env user) (params : s.params.now ≡ []) (args : s.args.now ≡ []) (size : s.size ≡ 0)
    (g : Grid) where
  pub has_size : HasScopeSize s g
  has_size = record { size = ap (λ e. size_now e g) env_is ∙ sym size }

  seen : scope_seen s ≡ exec_scope user
  seen = λ i. record { env = env_is i; params = params i; args = args i }

  pub computed_so : (call : Call0) (done : Call) → FitsFail (call_of call) → FitsInt64Alone (terms_of call.args) → done ≡ computed_on s g call
      → is_short done ≡ true
      → IsComputed user g (plain_call (call_of call)) done
  computed_so call done fail written is short =
      let c : CallText = plain_call (call_of call) in
      let same : done ≡ computed (exec_scope user) g c = is ∙ ap (λ sc. computed sc g c) seen in
      record {
        is = same;
        short = short;
        values = λ fails. (
          is_coded (exec_scope user) g (omega arith) (call_of call) fail written (subst (λ d. doing d ≡ failing) same fails),
          ap (λ (x : Call). x.args) same ∙ texts_of (value (exec_scope user) g) c.args,
        );
      }

  pub too_long : (call : Call0) → is_short (computed_on s g call) ≡ false → is_short (computed (exec_scope user) g (plain_call (call_of call))) ≡ false
  too_long call long = sym (ap (λ sc. is_short (computed sc g (plain_call (call_of call)))) seen) ∙ long

module _ (s : Scope) (user : Text) (env_is : env_of s.env.now ≡ no_env user) (params : s.params.now ≡ []) (args : s.args.now ≡ []) (size : s.size ≡ 0)
    (call : Call0) where
  -- the call that was computed, if there was memory
  pub computed_all : FitsFail (call_of call) → FitsInt64Alone (terms_of call.args) → (r : Result Call ComputeError)
      → IfOk r (λ done. (g : Grid) → HasScopeSize s g → done ≡ computed_on s g call)
      → IfOk r (λ done. IsTrue (is_short done)) → IfOk r (λ done. (g : Grid) → IsComputed user g (plain_call (call_of call)) done)
  computed_all fail written (Ok done) is short =
      λ g. computed_so s user env_is params args size g call done fail written (is g (has_size s user env_is params args size g)) short
  computed_all fail written (Err e) is short = tt

  pub long_all : (r : Result Call ComputeError) → (IsErrOf r compute.LongText → (g : Grid) → HasScopeSize s g → is_short (computed_on s g call) ≡ false)
      → IsErrOf r compute.LongText → (g : Grid) → is_short (computed (exec_scope user) g (plain_call (call_of call))) ≡ false
  long_all r long e g = too_long s user env_is params args size g call (long e g (has_size s user env_is params args size g))
