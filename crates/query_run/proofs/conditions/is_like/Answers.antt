use Rattle.std.proofs.lemmas.Bool.Decides.{same_from_decides}
use Rattle.grid_model.specs.Wildcards.{matches_sql}
use Rattle.query_run.proofs.SqlPatterns.{matches_from_test, test_from_matches}
use Rattle.query_run.proofs.conditions.is_like.Goals as goal

pub returns : goal.returns
returns c =
    let text = c.args.text.now in
    let pattern = c.args.pattern.now in
    same_from_decides c.like_sql.result (matches_sql pattern text) c.like_sql.ensures (matches_from_test pattern text, test_from_matches pattern text)
