use Rattle.size_laws.proofs.laws.calls_wait_at_once.Goals as goal
use Rattle.size_laws.proofs.SmallCalls.{calls_wait_at_once}

pub returns : goal.returns
returns c = calls_wait_at_once
