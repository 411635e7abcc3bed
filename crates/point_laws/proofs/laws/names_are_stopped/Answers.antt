use Rattle.point_laws.proofs.Stopping as lemmas
use Rattle.point_laws.proofs.laws.names_are_stopped.Goals as goal

pub returns : goal.returns
returns c = lemmas.names_are_stopped
