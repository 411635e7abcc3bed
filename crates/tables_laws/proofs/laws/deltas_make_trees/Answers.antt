use Rattle.tables_laws.proofs.Sound.{tree-made}
use Rattle.tables_laws.proofs.laws.deltas_make_trees.Goals as goal

pub returns : goal.returns
returns c = tree-made
