use Rattle.tables_laws.proofs.Entries.{grid-no_entry}
use Rattle.tables_laws.proofs.laws.access_is_removed.Goals as goal

pub returns : goal.returns
returns c = grid-no_entry
