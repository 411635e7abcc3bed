use Rattle.rule_lex.proofs.OneReading.{one_list}
use Rattle.rule_lex.proofs.laws.one_list_of_tokens.Goals as goal

pub returns : goal.returns
returns c = λ text tokens others spelled also. one_list also spelled
