use Rattle.query_parse.proofs.TextLemmas.{same_texts, same_query}
use Rattle.query_parse.proofs.laws.same_query_of_same_tokens.Goals as goal

pub returns : goal.returns
returns c = λ text other q a. (λ b. same_texts a b, λ s. same_query a s)
