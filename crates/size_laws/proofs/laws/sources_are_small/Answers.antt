use Rattle.size_laws.proofs.laws.sources_are_small.Goals as goal
use Rattle.size_laws.proofs.SmallRows.{sources_are_small}

pub returns : goal.returns
returns c = sources_are_small
