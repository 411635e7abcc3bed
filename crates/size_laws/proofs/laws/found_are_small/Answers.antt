use Rattle.size_laws.proofs.laws.found_are_small.Goals as goal
use Rattle.size_laws.proofs.Moments.{found_are_small}

pub returns : goal.returns
returns c = found_are_small
