use Rattle.tables_laws.proofs.MovedObjects.{grid-object_moved}
use Rattle.tables_laws.proofs.laws.an_object_is_moved.Goals as goal

pub returns : goal.returns
returns c = grid-object_moved
