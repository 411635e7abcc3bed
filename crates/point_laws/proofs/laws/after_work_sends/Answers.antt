use Rattle.point_laws.proofs.Sending as lemmas
use Rattle.point_laws.proofs.laws.after_work_sends.Goals as goal

pub returns : goal.returns
returns c = lemmas.after_work_sends
