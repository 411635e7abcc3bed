use Rattle.rule_texts.proofs.EachText.{each_call}
use Rattle.rule_texts.proofs.laws.each_call_is_read.Goals as goal

pub returns : goal.returns
returns c = λ rules text. each_call rules text
