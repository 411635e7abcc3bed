use Rattle.std.proofs.Common.{ap, ◌∙◌}
use Rattle.grid_model.specs.Levels.{may}
use Rattle.grid_model.specs.RowGrids.{grid_of, user_name}
use Rattle.plan_base.proofs.AtPaths.{placed}
use Rattle.plan_base.proofs.finding.may_at.Goals as goal

pub may-requires-clause-there : goal.may-requires-clause-there
may-requires-clause-there c = (placed c.args.tables.now c.requires.made c.requires.at.0 c.args.item c.requires.at.1).there

pub returns : goal.returns
returns c =
    λ p at. c.may.ensures ∙ ap (λ q. may (grid_of c.args.tables.now) (user_name c.args.tables.now c.args.user) q c.args.wanted) (placed c.args.tables.now c.requires.made p c.args.item at).place
