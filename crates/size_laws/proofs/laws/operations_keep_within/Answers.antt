use Rattle.size_laws.proofs.laws.operations_keep_within.Goals as goal
use Rattle.size_laws.proofs.SmallRows.{operations_keep_within}

pub returns : goal.returns
returns c = operations_keep_within
