use Rattle.grid_model.specs.Rows.{id_of, kind_of}
use Rattle.plan_base.proofs.NamedUsers.{level_in}
use Rattle.plan_base.proofs.finding.entry_level.Goals as goal

pub returns : goal.returns
returns c = level_in c.args.tables.now (kind_of c.args.item) (id_of c.args.item) c.args.user _ _ c.access_of.ensures c.level_for.ensures
