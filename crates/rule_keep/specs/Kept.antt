-- The texts of rules that a catalogue keeps, and what a text is read as.
use Rattle.std.specs.Prelude.{◌≡◌, List, Result, Ok, Err, map}
use Rattle.grid_model.specs.Checks.{checked_rules}
use Rattle.grid_model.specs.Names.{Text}
use Rattle.grid_model.specs.Parsed.{RuleAt, plain_rule, rule_of}
use Rattle.grid_model.specs.Refusing.{Or}
use Rattle.grid_model.specs.RuleText.{Rule}
use Rattle.grid_model.specs.declared.plans.PlanError.{PlanError}
use Rattle.grid_model.specs.declared.plans.PlanError.TheVariants as error
use Rattle.grid_model.specs.declared.refusal.Refusal.TheVariants.{BadRule}
use Rattle.grid_model.specs.declared.rules.Rule as code
use Rattle.rule_check.specs.declared.error.RuleError as check
use Rattle.rule_check.specs.declared.error.RuleError.TheVariants as bad
use Rattle.rule_parse.specs.Grammar.{SpellsRules}
use Rattle.rule_parse.specs.Printed.{print_rules}
use Rattle.rule_parse.specs.RuleTexts.{IsTextOf}
use Rattle.rule_parse.specs.declared.error.RuleError as parse
use Rattle.rule_parse.specs.declared.error.RuleError.TheVariants as unparsed

-- This is the text of the rules: they are allowed, and it is how they are printed.
pub record IsKeptText (text : Text) (rules : List Rule) : Type 0 where
  pub placed : List RuleAt
  pub spells : IsTextOf SpellsRules text placed
  pub allowed : checked_rules placed ≡ Ok rules
  pub printed : print_rules rules ≡ text

-- the rules are read so, or there was no memory
abbrev pub IsReadSo : Or (List Rule) → Result (List code.Rule) PlanError → Type 0
IsReadSo rules (Ok rs) = rules ≡ Ok (map plain_rule (map rule_of rs))
IsReadSo rules (Err (error.Refused r)) = rules ≡ Err r
IsReadSo rules (Err error.Memory) = Unit {0}

-- why a text that is read so is refused
abbrev pub unread : parse.RuleError → PlanError
unread (unparsed.BadRule at cause) = error.Refused (BadRule at cause)
unread unparsed.Memory = error.Memory

-- why rules that are looked at so are refused
abbrev pub unchecked : check.RuleError → PlanError
unchecked (bad.Bad at cause) = error.Refused (BadRule at cause)
unchecked bad.Memory = error.Memory
