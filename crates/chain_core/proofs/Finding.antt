-- The scan for the next rule of a name.
use Rattle.std.proofs.Common.{◌≡◌, ℕ, suc, ◌<◌, ◌≤◌, true, false, List, ◌∷◌, length, map, drop, get_or, Some, None, sym, ◌∙◌, ap, drop-cons, ◌+◌, add-one}
use Rattle.std.proofs.lemmas.List.{drop-map, drop_all}
use Rattle.grid_model.specs.Names.{Text, same_text}
use Rattle.grid_model.specs.Parsed.{rule_of, plain_rule}
use Rattle.grid_model.specs.RuleText as meaning
use Rattle.grid_model.specs.declared.rules.Rule.{Rule}
use Rattle.grid_model.proofs.Comparing.{same_text-Decides, other_text}
use Rattle.chain_core.specs.Moves.{first_at, next_named}
use Rattle.chain_core.specs.Seen.{plain_rules}

-- the rule at this place is looked at first
looks : (rules : List Rule) (name : Text) (at : ℕ) (r : Rule) → at < length rules → r ≡ get_or rules at r
    → next_named (plain_rules rules) name at ≡ elim (same_text r.name name) [ true ↦ Some at | false ↦ next_named (plain_rules rules) name (suc at) ]
looks rules name at r below is =
    ap (λ rs. first_at rs name at) (drop-map plain at rules ∙ ap (map plain) (drop-cons rules at r below) ∙ ap (λ x. plain x ∷ map plain (drop (suc at) rules)) (sym is)
    ∙ ap (λ rs. plain r ∷ rs) (sym (drop-map plain (suc at) rules)))
  where
    plain : Rule → meaning.Rule
    plain x = plain_rule (rule_of x)

pub found : (rules : List Rule) (name : Text) (at : ℕ) (r : Rule) → at < length rules → r ≡ get_or rules at r → r.name ≡ name → next_named (plain_rules rules) name at ≡ Some at
found rules name at r below is same =
    looks rules name at r below is ∙ ap (λ b. elim b [ true ↦ Some at | false ↦ next_named (plain_rules rules) name (suc at) ]) ((same_text-Decides r.name name).1 same)

pub passed : (rules : List Rule) (name : Text) (at : ℕ) (r : Rule) → at < length rules → r ≡ get_or rules at r → (r.name ≡ name → ⊥) → next_named (plain_rules rules) name (at + 1) ≡ next_named (plain_rules rules) name at
passed rules name at r below is apart =
    ap (next_named (plain_rules rules) name) (add-one at) ∙ sym (looks rules name at r below is ∙ ap (λ b. elim b [ true ↦ Some at | false ↦ next_named (plain_rules rules) name (suc at) ]) (other_text r.name name apart))

-- no rule is left
pub none_left : (rules : List Rule) (name : Text) (at : ℕ) → length rules ≤ at → next_named (plain_rules rules) name at ≡ None
none_left rules name at over = ap (λ rs. first_at rs name at) (drop-map (λ r. plain_rule (rule_of r)) at rules ∙ ap (map (λ r. plain_rule (rule_of r))) (drop_all at rules over))
