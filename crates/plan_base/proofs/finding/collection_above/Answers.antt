use Rattle.std.proofs.Common.{sym, ◌∙◌}
use Rattle.plan_base.proofs.AtPaths.{above_none, above_some}
use Rattle.plan_base.proofs.finding.collection_above.Goals as goal

pub returns-in-None : goal.returns-in-None
returns-in-None c = above_none c.args.tables.now c.requires c.args.path.now c.in-Ok-Some.above (sym c.in-Ok-Some.field-0-is ∙ c.in-Ok-Some.ensures) c.in-None.ensures

pub returns : goal.returns
returns c = above_some c.args.tables.now c.requires c.args.path.now c.in-Ok-Some.above (sym c.in-Ok-Some.field-0-is ∙ c.in-Ok-Some.ensures) c.in-Some.id c.in-Some.ensures
