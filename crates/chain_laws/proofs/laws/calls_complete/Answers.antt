use Rattle.chain_laws.proofs.laws.calls_complete.Goals as goal
use Rattle.chain_laws.proofs.Endings as endings

pub returns : goal.returns
returns c = endings.calls_complete
