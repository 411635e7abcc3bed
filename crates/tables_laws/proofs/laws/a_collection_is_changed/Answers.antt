use Rattle.tables_laws.proofs.MovedCollections.{grid-collection_changed}
use Rattle.tables_laws.proofs.laws.a_collection_is_changed.Goals as goal

pub returns : goal.returns
returns c = grid-collection_changed
