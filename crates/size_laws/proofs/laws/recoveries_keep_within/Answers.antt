use Rattle.size_laws.proofs.laws.recoveries_keep_within.Goals as goal
use Rattle.size_laws.proofs.SmallCalls.{recoveries_keep_within}

pub returns : goal.returns
returns c = recoveries_keep_within
