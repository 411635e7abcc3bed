use Rattle.std.proofs.Common.{refl}
use Rattle.rule_like.proofs.Matching.{takes_all}
use Rattle.rule_like.proofs.laws.one_star.Goals as goal

pub returns-clause-star : goal.returns-clause-star
returns-clause-star c = λ text. takes_all 0x2A text refl

pub returns-clause-sql : goal.returns-clause-sql
returns-clause-sql c = λ text. takes_all 0x25 text refl
