use Rattle.tables_laws.proofs.Sound.{ties-made}
use Rattle.tables_laws.proofs.laws.deltas_keep_ties.Goals as goal

pub returns : goal.returns
returns c = ties-made
