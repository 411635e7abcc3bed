use Rattle.size_laws.proofs.laws.recovery_keeps_within.Goals as goal
use Rattle.size_laws.proofs.SmallCalls.{recovery_keeps_within}

pub returns : goal.returns
returns c = recovery_keeps_within
