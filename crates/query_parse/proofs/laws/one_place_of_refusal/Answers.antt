use Rattle.query_parse.proofs.TextLemmas.{one_place, never_both}
use Rattle.query_parse.proofs.laws.one_place_of_refusal.Goals as goal

pub returns-clause-place : goal.returns-clause-place
returns-clause-place c = λ text place other a b. one_place a b

pub returns-clause-none : goal.returns-clause-none
returns-clause-none c = λ text place q a b. never_both a b
