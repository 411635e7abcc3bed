use Rattle.point_laws.proofs.InOrder as lemmas
use Rattle.point_laws.proofs.laws.works_take_in_order.Goals as goal

pub returns : goal.returns
returns c = lemmas.works_take_in_order
