-- What a text is read as, and what it is refused for.
use Rattle.std.proofs.Common.{◌≡◌, ◌⊎◌, inl, inr, ℕ, ◌<◌, ◌≤◌, List, map, None, Some, Ok, Err, refl, sym, ap, ◌∙◌, subst, arith}
use Rattle.std.specs.Prelude.{Option, Result, IsErrOf, MatchResult, ⊤, length}
use Rattle.grid_model.specs.Bounds.{rules_size}
use Rattle.grid_model.specs.Checks.{Fault, checked_rules, first_fault, rules_faults}
use Rattle.grid_model.specs.Completing.{IsOfGrid}
use Rattle.grid_model.specs.Names.{Text}
use Rattle.grid_model.specs.Parsed.{RuleAt, plain_rule, rule_of}
use Rattle.grid_model.specs.Refusing.{Or}
use Rattle.grid_model.specs.RuleText.{Rule as RuleOf}
use Rattle.grid_model.specs.declared.plans.PlanError.{PlanError}
use Rattle.grid_model.specs.declared.plans.PlanError.TheVariants as plan
use Rattle.grid_model.specs.declared.refusal.Refusal.{Refusal}
use Rattle.grid_model.specs.declared.refusal.Refusal.TheVariants as refusal
use Rattle.grid_model.specs.declared.refusal.RuleCause.{RuleCause}
use Rattle.grid_model.specs.declared.rules.Rule.{Rule}
use Rattle.rule_check.specs.declared.error.RuleError.{RuleError as CheckError}
use Rattle.rule_check.specs.declared.error.RuleError.TheVariants as check
use Rattle.rule_keep.specs.Kept.{IsReadSo, unchecked, unread}
use Rattle.rule_parse.specs.Grammar.{SpellsRules}
use Rattle.rule_parse.specs.RuleOrders.{ReadsRules, none, these, too_large}
use Rattle.rule_parse.specs.RuleTexts.{IsRefusedText, IsTextOf}
use Rattle.rule_parse.specs.declared.error.RuleError.{RuleError}
use Rattle.rule_parse.specs.declared.error.RuleError.TheVariants as parse

-- what is said of a result where it is known
abbrev pub read_only : Result (List Rule) RuleError → List RuleAt → Type 0
read_only result rs = MatchResult result (λ found. map rule_of found ≡ rs) (λ e. e ≡ parse.Memory)

abbrev pub refused_only : Result (List Rule) RuleError → ℕ → RuleCause → Type 0
refused_only result at cause = MatchResult result (λ found. ⊥) (λ e. (e ≡ parse.BadRule at cause) ⊎ (e ≡ parse.Memory))

module _ (result : Result (List Rule) RuleError) (e : RuleError) (x : PlanError) (is : result ≡ Err e) (x_is : x ≡ unread e) where
  -- what is rules is not refused
  pub fails_for_memory : (rs : List RuleAt) → read_only result rs → (rules : Or (List RuleOf)) → IsReadSo rules (Err x)
  fails_for_memory rs only rules =
      let memory : e ≡ parse.Memory = subst (λ r. read_only r rs) is only in
      let R : PlanError → Type 0 = λ y. IsReadSo rules (Err y) in
      subst R (sym (x_is ∙ ap unread memory)) tt

  -- what is refused is refused so
  pub refused_there : (at : ℕ) (cause : RuleCause) → refused_only result at cause → IsReadSo (Err (refusal.BadRule at cause)) (Err x)
  refused_there at cause refuses = by (subst (λ r. refused_only r at cause) is refuses)
    where
      R : PlanError → Type 0
      R y = IsReadSo (Err (refusal.BadRule at cause)) (Err y)

      by : (e ≡ parse.BadRule at cause) ⊎ (e ≡ parse.Memory) → R x
      by (inl bad) = subst R (sym (x_is ∙ ap unread bad)) refl
      by (inr memory) = subst R (sym (x_is ∙ ap unread memory)) tt

module _ (result : Result (List Rule) RuleError) (found : List Rule) (is : result ≡ Ok found) where
  -- these are the rules
  pub found_is : (rs : List RuleAt) → read_only result rs → map rule_of found ≡ rs
  found_is rs only = subst (λ r. read_only r rs) is only

  pub never_refused : (at : ℕ) (cause : RuleCause) → refused_only result at cause → ⊥
  never_refused at cause refuses = subst (λ r. refused_only r at cause) is refuses

module _ (rs : List RuleAt) where
  abbrev by_fault : Option Fault → Or (List RuleOf)
  by_fault o = elim o [ None ↦ Ok (map plain_rule rs) | Some f ↦ Err (refusal.BadRule f.0 f.1) ]

  -- rules without a fault are allowed, and others are not
  pub checked_good : first_fault (rules_faults rs) ≡ None → checked_rules rs ≡ Ok (map plain_rule rs)
  checked_good e = ap by_fault e

  bad_by : (e : CheckError) → ((at : ℕ) (cause : RuleCause) → e ≡ check.Bad at cause → first_fault (rules_faults rs) ≡ Some (at, cause))
      → IsReadSo (checked_rules rs) (Err (unchecked e))
  bad_by (check.Bad at cause) says = ap by_fault (says at cause refl)
  bad_by check.Memory says = tt

  pub checked_bad : (result : Result ⊤ CheckError) (e : CheckError) (x : PlanError) → result ≡ Err e → x ≡ unchecked e
      → ((at : ℕ) (cause : RuleCause) → IsErrOf result (check.Bad at cause) → first_fault (rules_faults rs) ≡ Some (at, cause))
      → IsReadSo (checked_rules rs) (Err x)
  checked_bad result e x is x_is says =
      let R : PlanError → Type 0 = λ y. IsReadSo (checked_rules rs) (Err y) in
      subst R (sym x_is) (bad_by e (λ at cause same. says at cause (is ∙ ap Err same)))

  -- what is allowed has no fault, and is these
  pub allowed_is : (rules : List RuleOf) → checked_rules rs ≡ Ok rules → (first_fault (rules_faults rs) ≡ None) × (rules ≡ map plain_rule rs)
  allowed_is rules allowed = by (first_fault (rules_faults rs)) refl
    where
      by : (o : Option Fault) → first_fault (rules_faults rs) ≡ o → (first_fault (rules_faults rs) ≡ None) × (rules ≡ map plain_rule rs)
      by None e = let same : Ok rules ≡ Ok (map plain_rule rs) = sym allowed ∙ ap by_fault e in (e, cc)
      by (Some f) e = let same : Ok rules ≡ Err (refusal.BadRule f.0 f.1) = sym allowed ∙ ap by_fault e in absurd (cc same)

-- ---- no refusal is that of a mark

of_grid : (e x : PlanError) (r : Refusal) → e ≡ x → (IsErrOf {T = List Rule} {E = PlanError} (Err x) (plan.Refused r) → IsOfGrid r)
    → IsErrOf {T = List Rule} {E = PlanError} (Err e) (plan.Refused r) → IsOfGrid r
of_grid e x r same its is = its (ap Err (sym same) ∙ is)

pub unread_of_grid : (e : RuleError) (x : PlanError) → x ≡ unread e → (r : Refusal) → IsErrOf {T = List Rule} {E = PlanError} (Err x) (plan.Refused r)
    → IsOfGrid r
unread_of_grid (parse.BadRule at cause) x same r =
    of_grid x (plan.Refused (refusal.BadRule at cause)) r same (λ e. let this_one : refusal.BadRule at cause ≡ r = cc in subst IsOfGrid this_one tt)
unread_of_grid parse.Memory x same r = of_grid x plan.Memory r same (λ e. cc)

pub unchecked_of_grid : (e : CheckError) (x : PlanError) → x ≡ unchecked e → (r : Refusal) → IsErrOf {T = List Rule} {E = PlanError} (Err x) (plan.Refused r)
    → IsOfGrid r
unchecked_of_grid (check.Bad at cause) x same r =
    of_grid x (plan.Refused (refusal.BadRule at cause)) r same (λ e. let this_one : refusal.BadRule at cause ≡ r = cc in subst IsOfGrid this_one tt)
unchecked_of_grid check.Memory x same r = of_grid x plan.Memory r same (λ e. cc)

pub too_large_of_grid : (r : Refusal) → IsErrOf {T = List Rule} {E = PlanError} (Err (plan.Refused (refusal.TooLarge rules_size))) (plan.Refused r) → IsOfGrid r
too_large_of_grid r e = let this_one : refusal.TooLarge rules_size ≡ r = cc in subst IsOfGrid this_one tt

-- ---- a text that is set

pub too_long : (text : Text) → rules_size < length text → (rules : Or (List RuleOf)) → ReadsRules text rules → rules ≡ Err (refusal.TooLarge rules_size)
too_long text long rules (these rs most spells is) = absurd (omega (arith, long, most))
too_long text long (Err (refusal.BadRule place cause)) (none most refuses) = absurd (omega (arith, long, most))
too_long text long (Err (refusal.TooLarge n)) (too_large more) = refl

module _ (text : Text) (result : Result (List Rule) PlanError) (short : length text ≤ rules_size)
    (is : (rs : List RuleAt) → IsTextOf SpellsRules text rs → IsReadSo (checked_rules rs) result)
    (refused : (at : ℕ) (cause : RuleCause) → IsRefusedText SpellsRules text at cause → IsReadSo (Err (refusal.BadRule at cause)) result) where
  pub read_short : (rules : Or (List RuleOf)) → ReadsRules text rules → IsReadSo rules result
  read_short rules (these rs most spells same) = let R : Or (List RuleOf) → Type 0 = λ o. IsReadSo o result in subst R (sym same) (is rs spells)
  read_short rules (none {place = place} {cause = why} most refuses) = refused place why refuses
  read_short rules (too_large more) = absurd (omega (arith, short, more))
