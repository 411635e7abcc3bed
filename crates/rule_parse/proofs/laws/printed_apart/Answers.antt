use Rattle.std.proofs.Common.{map, sym, ap, subst, ◌∙◌}
use Rattle.grid_model.specs.Parsed.{plain_rule}
use Rattle.rule_parse.specs.Grammar.{SpellsRules}
use Rattle.rule_parse.specs.Printed.{print_rules}
use Rattle.rule_parse.specs.RuleTexts.{IsTextOf}
use Rattle.rule_parse.proofs.PrintedTexts.{printed_again}
use Rattle.rule_parse.proofs.Readings.{one_list_of_rules}
use Rattle.rule_parse.proofs.TextLemmas.{one_value_of}
use Rattle.rule_parse.proofs.laws.printed_apart.Goals as goal

pub returns-clause-apart : goal.returns-clause-apart
returns-clause-apart c = λ text other rules others h g same.
    let a = printed_again rules h in
    let b = printed_again others g in
    sym a.same ∙ ap (map plain_rule) (one_value_of SpellsRules one_list_of_rules a.spells (subst (λ s. IsTextOf SpellsRules s b.again) (sym same) b.spells)) ∙ b.same

pub returns-clause-again : goal.returns-clause-again
returns-clause-again c = λ text rules again h g.
    let a = printed_again rules h in
    ap print_rules (ap (map plain_rule) (one_value_of SpellsRules one_list_of_rules g a.spells) ∙ a.same)
