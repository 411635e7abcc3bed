use Rattle.tables_laws.proofs.Roots.{grid-root}
use Rattle.tables_laws.proofs.laws.the_root_is_put.Goals as goal

pub returns : goal.returns
returns c = grid-root
