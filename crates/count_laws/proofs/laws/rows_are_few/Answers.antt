use Rattle.count_laws.proofs.laws.rows_are_few.Goals as goal
use Rattle.count_laws.proofs.RowNumbers.{rows_are_few}

pub returns : goal.returns
returns c = rows_are_few
