use Rattle.size_laws.proofs.laws.rows_are_small.Goals as goal
use Rattle.size_laws.proofs.SmallTables.{rows_are_small}

pub returns : goal.returns
returns c = rows_are_small
