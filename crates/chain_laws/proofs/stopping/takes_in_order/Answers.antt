use Rattle.chain_laws.proofs.Taking.{takes_in_order}
use Rattle.chain_laws.proofs.stopping.takes_in_order.Goals as goal

pub returns : goal.returns
returns c = takes_in_order
