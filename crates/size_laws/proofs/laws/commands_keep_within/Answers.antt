use Rattle.size_laws.proofs.laws.commands_keep_within.Goals as goal
use Rattle.size_laws.proofs.SmallRequests.{commands_keep_within}

pub returns : goal.returns
returns c = commands_keep_within
