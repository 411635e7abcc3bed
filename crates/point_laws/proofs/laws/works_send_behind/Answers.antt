use Rattle.point_laws.proofs.Sending as lemmas
use Rattle.point_laws.proofs.laws.works_send_behind.Goals as goal

pub returns : goal.returns
returns c = lemmas.works_send_behind
