use Rattle.grid_model.specs.Grid.{everybody}
use Rattle.tables_laws.proofs.LookUps.{is_same_text}
use Rattle.plan_coll.proofs.members.is_everybody.Goals as goal

pub returns : goal.returns
returns c = is_same_text c.has_bytes.result c.args.group.now everybody c.has_bytes.ensures
