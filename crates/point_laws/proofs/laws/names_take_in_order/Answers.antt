use Rattle.point_laws.proofs.Names as lemmas
use Rattle.point_laws.proofs.laws.names_take_in_order.Goals as goal

pub returns : goal.returns
returns c = lemmas.names_take_in_order
