use Rattle.rule_texts.proofs.EachText.{each_rules}
use Rattle.rule_texts.proofs.laws.each_text_of_rules_is_read.Goals as goal

pub returns : goal.returns
returns c = λ text. each_rules text
