use Rattle.size_laws.proofs.laws.deeds_are_small.Goals as goal
use Rattle.size_laws.proofs.SmallRows.{deeds_are_small}

pub returns : goal.returns
returns c = deeds_are_small
