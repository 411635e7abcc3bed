use Rattle.size_laws.proofs.laws.start_is_within.Goals as goal
use Rattle.size_laws.proofs.SmallTables.{start_is_within}

pub returns : goal.returns
returns c = start_is_within
