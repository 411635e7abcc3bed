use Rattle.tables_laws.proofs.ReplacedResources.{grid-resource_again}
use Rattle.tables_laws.proofs.laws.a_resource_is_put_again.Goals as goal

pub returns : goal.returns
returns c = grid-resource_again
