use Rattle.size_laws.proofs.laws.files_take_few.Goals as goal
use Rattle.size_laws.proofs.Moments.{files_take_few}

pub returns : goal.returns
returns c = files_take_few
