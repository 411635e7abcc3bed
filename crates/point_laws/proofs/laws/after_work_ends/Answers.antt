use Rattle.point_laws.proofs.Ending as lemmas
use Rattle.point_laws.proofs.laws.after_work_ends.Goals as goal

pub returns : goal.returns
returns c = lemmas.after_work_ends
