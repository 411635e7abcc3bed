use Rattle.query_parse.proofs.TextLemmas.{one_text}
use Rattle.query_parse.proofs.laws.one_query.Goals as goal

pub returns : goal.returns
returns c = λ text q r a b. one_text a b
