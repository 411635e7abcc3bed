use Rattle.rule_cond.proofs.StarLemmas.{matches_from_test, test_from_matches}
use Rattle.rule_cond.proofs.laws.star_patterns.Goals as goal

pub returns : goal.returns
returns c = λ pattern text. (matches_from_test pattern text, test_from_matches pattern text)
