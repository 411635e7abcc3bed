use Rattle.size_laws.proofs.laws.calls_keep_within.Goals as goal
use Rattle.size_laws.proofs.SmallCalls.{calls_keep_within}

pub returns : goal.returns
returns c = calls_keep_within
