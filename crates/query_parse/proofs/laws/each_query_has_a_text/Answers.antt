use Rattle.query_parse.proofs.PrintLemmas.{has_text}
use Rattle.query_parse.proofs.laws.each_query_has_a_text.Goals as goal

pub returns : goal.returns
returns c = λ tokens q spells. has_text spells
