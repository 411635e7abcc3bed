use Rattle.size_laws.proofs.laws.pointed_keep_within.Goals as goal
use Rattle.size_laws.proofs.SmallRequests.{pointed_keep_within}

pub returns : goal.returns
returns c = pointed_keep_within
