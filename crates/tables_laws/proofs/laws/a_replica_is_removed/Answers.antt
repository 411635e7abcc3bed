use Rattle.tables_laws.proofs.Replicas.{grid-no_replica}
use Rattle.tables_laws.proofs.laws.a_replica_is_removed.Goals as goal

pub returns : goal.returns
returns c = grid-no_replica
