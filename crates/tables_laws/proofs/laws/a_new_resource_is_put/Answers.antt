use Rattle.tables_laws.proofs.NewResources.{grid-new_resource}
use Rattle.tables_laws.proofs.laws.a_new_resource_is_put.Goals as goal

pub returns : goal.returns
returns c = grid-new_resource
