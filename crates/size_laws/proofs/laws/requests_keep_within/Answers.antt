use Rattle.size_laws.proofs.laws.requests_keep_within.Goals as goal
use Rattle.size_laws.proofs.SmallRequests.{requests_keep_within}

pub returns : goal.returns
returns c = requests_keep_within
