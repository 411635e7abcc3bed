use Rattle.rule_parse.specs.Grammar.{SpellsRules}
use Rattle.rule_parse.proofs.Readings.{one_list_of_rules}
use Rattle.rule_parse.proofs.TextLemmas.{never_both, one_refusal}
use Rattle.rule_parse.proofs.laws.one_refusal.Goals as goal

pub returns-clause-none : goal.returns-clause-none
returns-clause-none c = λ text place cause rules h g. never_both SpellsRules one_list_of_rules h g

pub returns-clause-place : goal.returns-clause-place
returns-clause-place c = λ text place other cause why h g. one_refusal SpellsRules one_list_of_rules h g
