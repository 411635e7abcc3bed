use Rattle.tables_laws.proofs.MovedCollections.{grid-collection_moved}
use Rattle.tables_laws.proofs.laws.a_collection_is_moved.Goals as goal

pub returns : goal.returns
returns c = grid-collection_moved
