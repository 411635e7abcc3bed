use Rattle.count_laws.proofs.laws.leaves_are_few.Goals as goal
use Rattle.count_laws.proofs.DistinctLeaves.{leaves_are_few}

pub returns : goal.returns
returns c = leaves_are_few
