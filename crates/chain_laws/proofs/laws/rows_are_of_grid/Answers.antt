use Rattle.chain_laws.proofs.laws.rows_are_of_grid.Goals as goal
use Rattle.chain_laws.proofs.OfOperations.{rows_are_of_grid}

pub returns : goal.returns
returns c = rows_are_of_grid
