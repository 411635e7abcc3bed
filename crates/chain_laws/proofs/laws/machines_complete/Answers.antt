use Rattle.chain_laws.proofs.laws.machines_complete.Goals as goal
use Rattle.chain_laws.proofs.Endings as endings

pub returns : goal.returns
returns c = endings.machines_complete
