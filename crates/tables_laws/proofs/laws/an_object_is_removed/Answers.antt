use Rattle.tables_laws.proofs.Dropped.{grid-no_object}
use Rattle.tables_laws.proofs.laws.an_object_is_removed.Goals as goal

pub returns : goal.returns
returns c = grid-no_object
