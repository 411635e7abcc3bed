use Rattle.tables_laws.proofs.NewObjects.{grid-new_object}
use Rattle.tables_laws.proofs.laws.a_new_object_is_put.Goals as goal

pub returns : goal.returns
returns c = grid-new_object
