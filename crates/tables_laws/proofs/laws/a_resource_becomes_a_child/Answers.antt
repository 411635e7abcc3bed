use Rattle.tables_laws.proofs.NewResources.{grid-child_resource}
use Rattle.tables_laws.proofs.laws.a_resource_becomes_a_child.Goals as goal

pub returns : goal.returns
returns c = grid-child_resource
