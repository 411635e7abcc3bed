-- The rules with which a server begins.
use Rattle.std.proofs.Common.{◌≡◌, ℕ, List, [], ◌∷◌, Option, Some, None, Result, Ok, Err, refl, sym, ap, ◌∙◌, subst}
use Rattle.std.specs.Prelude.{IfOk, IfSome, map}
use Rattle.grid_model.specs.Checks.{first_fault, rules_faults}
use Rattle.grid_model.specs.Names.{Text}
use Rattle.grid_model.specs.Parsed.{plain_rule, rule_of}
use Rattle.grid_model.specs.RuleText as meaning
use Rattle.grid_model.specs.Rows.{Cat}
use Rattle.grid_model.specs.declared.rules.Rule.{Rule}
use Rattle.rule_parse.specs.Printed.{print_rules}
use Rattle.rule_keep.specs.Kept.{IsKeptText}
use Rattle.grid_headline.specs.Reads.{HasRules}
use Rattle.chain_core.specs.Seen.{plain_rules, rules_of}
use Rattle.chain_core.specs.declared.base.RuleBase.{RuleBase}
use Rattle.sess.specs.Places.{Places, at, user_of}
use Rattle.cmd_run.specs.Fits.{AreUsers}

-- without places, in two steps or in one
plain_twice : (rules : List Rule) → map plain_rule (map rule_of rules) ≡ plain_rules rules
plain_twice [] = refl
plain_twice (r ∷ rules) = ap (λ (rest : List meaning.Rule). plain_rule (rule_of r) ∷ rest) (plain_twice rules)

module _ {E : Type 0} (found : Option (List Rule)) (rules : List Rule) (is : found ≡ Some rules) (r : Result RuleBase E) (made : IfOk r (λ base. base.rules ≡ rules)) where
  -- the base means the rules whose text is kept
  pub has_base : (c : Cat) (text : Text) → text ≡ c.rules → IfSome found (λ x. IsKeptText text (map plain_rule (map rule_of x)))
      → IfOk r (λ base. HasRules c (rules_of base))
  has_base c text same kept = by r made
    where
      of_rules : IsKeptText text (map plain_rule (map rule_of rules))
      of_rules = subst (λ (o : Option (List Rule)). IfSome o (λ x. IsKeptText text (map plain_rule (map rule_of x)))) is kept

      by : (x : Result RuleBase E) → IfOk x (λ base. base.rules ≡ rules) → IfOk x (λ base. HasRules c (rules_of base))
      by (Ok base) one = sym same ∙ sym of_rules.printed ∙ ap print_rules (plain_twice rules ∙ ap plain_rules (sym one))
      by (Err e) one = tt

  -- and these are allowed
  pub checked_base : IfSome found (λ x. first_fault (rules_faults (map rule_of x)) ≡ None) → IfOk r (λ base. first_fault (rules_faults (map rule_of base.rules)) ≡ None)
  checked_base checked = by r made
    where
      of_rules : first_fault (rules_faults (map rule_of rules)) ≡ None
      of_rules = subst (λ (o : Option (List Rule)). IfSome o (λ x. first_fault (rules_faults (map rule_of x)) ≡ None)) is checked

      by : (x : Result RuleBase E) → IfOk x (λ base. base.rules ≡ rules) → IfOk x (λ base. first_fault (rules_faults (map rule_of base.rules)) ≡ None)
      by (Ok base) one = ap (λ (l : List Rule). first_fault (rules_faults (map rule_of l))) one ∙ of_rules
      by (Err e) one = tt

-- where nobody is logged in, who is logged in is a user
pub nobody_there : (c : Cat) (places : Places) → ((n : ℕ) → at places n ≡ None) → AreUsers c places
nobody_there c places none n id is = let nobody : user_of (at places n) ≡ None = ap user_of (none n) in absurd (cc (nobody, is))
