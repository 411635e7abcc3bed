use Rattle.size_laws.proofs.laws.work_keeps_within.Goals as goal
use Rattle.size_laws.proofs.SmallCalls.{work_keeps_within}

pub returns : goal.returns
returns c = work_keeps_within
