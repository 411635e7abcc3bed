use Rattle.size_laws.proofs.laws.parts_are_few.Goals as goal
use Rattle.size_laws.proofs.Moments.{parts_are_few}

pub returns : goal.returns
returns c = parts_are_few
