use Rattle.tables_laws.proofs.ChangedResources.{grid-resource_changed}
use Rattle.tables_laws.proofs.laws.a_resource_is_changed.Goals as goal

pub returns : goal.returns
returns c = grid-resource_changed
