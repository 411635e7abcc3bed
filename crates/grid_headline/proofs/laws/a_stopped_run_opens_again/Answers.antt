use Rattle.grid_headline.proofs.Promise.{opens_again}
use Rattle.grid_headline.proofs.laws.a_stopped_run_opens_again.Goals as goal

pub returns : goal.returns
returns g c = λ found end serves told settled t i late left. opens_again serves.run _ i (serves.images told settled t i late left)
