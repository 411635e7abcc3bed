use Rattle.grid_journal.proofs.KeepingLemmas.{keeps_stands}
use Rattle.grid_journal.proofs.laws.kept_stands.Goals as goal

pub returns : goal.returns
returns c = keeps_stands
