use Rattle.query_parse.proofs.EachText.{each_text}
use Rattle.query_parse.proofs.laws.each_text_is_read.Goals as goal

pub returns : goal.returns
returns c = λ text. each_text text
