use Rattle.tables_laws.proofs.MovedObjects.{grid-object_changed}
use Rattle.tables_laws.proofs.laws.an_object_is_changed.Goals as goal

pub returns : goal.returns
returns c = grid-object_changed
