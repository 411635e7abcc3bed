use Rattle.rule_parse.specs.Grammar.{SpellsCall, SpellsRules}
use Rattle.rule_parse.proofs.Readings.{one_call, one_list_of_rules}
use Rattle.rule_parse.proofs.TextLemmas.{one_value_of}
use Rattle.rule_parse.proofs.laws.one_reading.Goals as goal

pub returns-clause-rules : goal.returns-clause-rules
returns-clause-rules c = λ text rules others h g. one_value_of SpellsRules one_list_of_rules h g

pub returns-clause-call : goal.returns-clause-call
returns-clause-call c = λ text call other h g. one_value_of SpellsCall one_call h g
