use Rattle.point_laws.proofs.Ending as lemmas
use Rattle.point_laws.proofs.laws.work_ends.Goals as goal

pub returns : goal.returns
returns c = lemmas.work_ends
