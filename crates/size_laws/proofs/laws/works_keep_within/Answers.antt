use Rattle.size_laws.proofs.laws.works_keep_within.Goals as goal
use Rattle.size_laws.proofs.SmallRequests.{works_keep_within}

pub returns : goal.returns
returns c = works_keep_within
