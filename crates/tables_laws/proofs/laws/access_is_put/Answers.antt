use Rattle.tables_laws.proofs.Entries.{grid-entry}
use Rattle.tables_laws.proofs.laws.access_is_put.Goals as goal

pub returns : goal.returns
returns c = grid-entry
