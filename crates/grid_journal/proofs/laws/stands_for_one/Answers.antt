use Rattle.grid_journal.proofs.StandsLemmas.{Stands-same}
use Rattle.grid_journal.proofs.laws.stands_for_one.Goals as goal

pub returns : goal.returns
returns c = Stands-same
