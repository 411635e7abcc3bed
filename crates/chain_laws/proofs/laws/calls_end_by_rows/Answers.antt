use Rattle.chain_laws.proofs.laws.calls_end_by_rows.Goals as goal
use Rattle.chain_laws.proofs.ByRows.{calls_end_by_rows}

pub returns : goal.returns
returns c = calls_end_by_rows
