use Rattle.tables_laws.proofs.NewCollections.{grid-new_collection}
use Rattle.tables_laws.proofs.laws.a_new_collection_is_put.Goals as goal

pub returns : goal.returns
returns c = grid-new_collection
