use Rattle.size_laws.proofs.laws.names_keep_within.Goals as goal
use Rattle.size_laws.proofs.SmallRules.{names_keep_within}

pub returns : goal.returns
returns c = names_keep_within
