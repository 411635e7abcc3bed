use Rattle.size_laws.proofs.laws.points_keep_within.Goals as goal
use Rattle.size_laws.proofs.SmallRequests.{points_keep_within}

pub returns : goal.returns
returns c = points_keep_within
