use Rattle.size_laws.proofs.laws.bodies_are_small.Goals as goal
use Rattle.size_laws.proofs.SmallRows.{bodies_are_small}

pub returns : goal.returns
returns c = bodies_are_small
