use Rattle.chain_laws.proofs.laws.recovered_completes.Goals as goal
use Rattle.chain_laws.proofs.Endings as endings

pub returns : goal.returns
returns c = endings.recovered_completes
