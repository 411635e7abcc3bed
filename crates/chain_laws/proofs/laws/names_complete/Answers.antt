use Rattle.chain_laws.proofs.laws.names_complete.Goals as goal
use Rattle.chain_laws.proofs.Endings as endings

pub returns : goal.returns
returns c = endings.names_complete
