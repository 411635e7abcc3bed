use Rattle.tables_laws.proofs.Replicas.{grid-replica}
use Rattle.tables_laws.proofs.laws.a_replica_is_put.Goals as goal

pub returns : goal.returns
returns c = grid-replica
