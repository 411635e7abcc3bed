use Rattle.rule_like.proofs.Matching.{matches_itself, plain_star, plain_sql}
use Rattle.rule_like.proofs.laws.plain_patterns.Goals as goal

pub returns-clause-star : goal.returns-clause-star
returns-clause-star c = λ text pattern plain. matches_itself plain_star text pattern plain

pub returns-clause-sql : goal.returns-clause-sql
returns-clause-sql c = λ text pattern plain. matches_itself plain_sql text pattern plain
