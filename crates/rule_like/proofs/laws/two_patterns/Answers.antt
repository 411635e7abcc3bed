use Rattle.rule_like.proofs.Matching.{in_two, from_two}
use Rattle.rule_like.proofs.laws.two_patterns.Goals as goal

pub returns : goal.returns
returns c = λ piece_of text first second. (λ h. in_two first second h, λ h. from_two h)
