-- The texts of rules that are kept.
use Rattle.std.proofs.Common.{◌≡◌, List, map, None, Ok, Err, refl, sym, ap, ◌∙◌, subst}
use Rattle.std.specs.Prelude.{Result}
use Rattle.grid_model.specs.Checks.{checked_rules, first_fault, rules_faults}
use Rattle.grid_model.specs.Names.{Text}
use Rattle.grid_model.specs.Parsed.{RuleAt, plain_rule}
use Rattle.grid_model.specs.RuleText.{Rule as RuleOf}
use Rattle.grid_model.specs.declared.plans.PlanError.{PlanError}
use Rattle.grid_model.specs.declared.plans.PlanError.TheVariants as plan
use Rattle.grid_model.specs.declared.refusal.Refusal.{Refusal}
use Rattle.grid_model.specs.declared.rules.Rule.{Rule}
use Rattle.rule_keep.specs.Kept.{IsKeptText, IsReadSo}
use Rattle.rule_parse.specs.Grammar.{SpellsRules}
use Rattle.rule_parse.specs.Printed.{print_rules}
use Rattle.rule_parse.specs.RuleTexts.{IsTextOf}
use Rattle.rule_parse.proofs.PrintedTexts.{printed_again}
use Rattle.rule_parse.proofs.Readings.{one_list_of_rules}
use Rattle.rule_parse.proofs.TextLemmas.{one_value_of}
use Rattle.rule_keep.proofs.ReadTexts.{allowed_is, checked_good}
use Rattle.rule_keep.proofs.WithoutPlaces.{faultless_alike}

module _ (text : Text) where
  one_list : (rs qs : List RuleAt) → IsTextOf SpellsRules text rs → IsTextOf SpellsRules text qs → rs ≡ qs
  one_list rs qs h g = one_value_of SpellsRules one_list_of_rules h g

  -- where what is allowed is refused nothing is kept
  pub none_refused : (r : Refusal) (result : Result (List Rule) PlanError) → result ≡ Err (plan.Refused r)
      → ((rs : List RuleAt) → IsTextOf SpellsRules text rs → IsReadSo (checked_rules rs) result) → (rules : List RuleOf) → ¬ IsKeptText text rules
  none_refused r result is reads rules k =
      let R : Result (List Rule) PlanError → Type 0 = λ x. IsReadSo (checked_rules k.placed) x in
      let refuses : checked_rules k.placed ≡ Err r = subst R is (reads k.placed k.spells) in
      let allows = k.allowed in
      absurd (cc (refuses, allows))

  -- what is spelled, allowed and printed so is kept
  pub kept : (rs : List RuleAt) → IsTextOf SpellsRules text rs → first_fault (rules_faults rs) ≡ None → print_rules (map plain_rule rs) ≡ text
      → IsKeptText text (map plain_rule rs)
  kept rs spells faultless printed = record { placed = rs; spells = spells; allowed = checked_good rs faultless; printed = printed }

  -- what is kept is printed so
  pub kept_is_printed : (rs : List RuleAt) → IsTextOf SpellsRules text rs → (rules : List RuleOf) → IsKeptText text rules
      → print_rules (map plain_rule rs) ≡ text
  kept_is_printed rs spells rules k =
      ap (λ l. print_rules (map plain_rule l)) (one_list rs k.placed spells k.spells) ∙ ap print_rules (sym (allowed_is k.placed rules k.allowed).1) ∙ k.printed

  pub one_kept : (rules others : List RuleOf) → IsKeptText text rules → IsKeptText text others → rules ≡ others
  one_kept rules others k j =
      (allowed_is k.placed rules k.allowed).1 ∙ ap (map plain_rule)
      (one_list k.placed j.placed k.spells j.spells) ∙ sym (allowed_is j.placed others j.allowed).1

-- rules that are allowed are kept once they are printed
pub kept_once_printed : (text : Text) (rs : List RuleAt) → IsTextOf SpellsRules text rs → first_fault (rules_faults rs) ≡ None
    → IsKeptText (print_rules (map plain_rule rs)) (map plain_rule rs)
kept_once_printed text rs spells faultless =
    let a = printed_again rs spells in
    record {
      placed = a.again;
      spells = a.spells;
      allowed = checked_good a.again (faultless_alike rs a.again (sym a.same) faultless) ∙ ap Ok a.same;
      printed = refl;
    }
