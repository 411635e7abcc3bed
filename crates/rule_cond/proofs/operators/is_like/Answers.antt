use Rattle.std.proofs.lemmas.Bool.Decides.{same_from_decides}
use Rattle.grid_model.specs.Wildcards.{matches_star}
use Rattle.rule_cond.proofs.StarLemmas.{matches_from_test, test_from_matches}
use Rattle.rule_cond.proofs.operators.is_like.Goals as goal

pub returns : goal.returns
returns c =
    let pattern = c.args.pattern.now in
    let text = c.args.text.now in
    same_from_decides c.like_star.result (matches_star pattern text) c.like_star.ensures (matches_from_test pattern text, test_from_matches pattern text)
