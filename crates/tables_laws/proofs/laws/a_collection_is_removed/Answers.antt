use Rattle.tables_laws.proofs.Dropped.{grid-no_collection}
use Rattle.tables_laws.proofs.laws.a_collection_is_removed.Goals as goal

pub returns : goal.returns
returns c = grid-no_collection
