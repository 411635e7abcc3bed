use Rattle.tables_laws.proofs.Sound.{sound-made}
use Rattle.tables_laws.proofs.laws.deltas_keep_tables.Goals as goal

pub returns : goal.returns
returns c = λ deltas d e. (sound-made deltas d e).cat
