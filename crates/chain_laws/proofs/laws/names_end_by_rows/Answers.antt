use Rattle.chain_laws.proofs.laws.names_end_by_rows.Goals as goal
use Rattle.chain_laws.proofs.ByRows.{names_end_by_rows}

pub returns : goal.returns
returns c = names_end_by_rows
