use Rattle.size_laws.proofs.laws.opening_keeps_within.Goals as goal
use Rattle.size_laws.proofs.SmallRequests.{opening_keeps_within}

pub returns : goal.returns
returns c = opening_keeps_within
