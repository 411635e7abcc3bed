use Rattle.count_laws.proofs.laws.leaves_stay.Goals as goal
use Rattle.count_laws.proofs.Leaves.{leaves_stay}

pub returns : goal.returns
returns c = leaves_stay
