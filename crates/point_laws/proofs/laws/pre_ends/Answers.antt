use Rattle.point_laws.proofs.Ending as lemmas
use Rattle.point_laws.proofs.laws.pre_ends.Goals as goal

pub returns : goal.returns
returns c = lemmas.pre_ends
