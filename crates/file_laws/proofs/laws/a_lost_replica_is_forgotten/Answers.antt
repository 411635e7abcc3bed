use Rattle.file_laws.proofs.Publics.{replica_forgotten}
use Rattle.file_laws.proofs.laws.a_lost_replica_is_forgotten.Goals as goal

pub returns : goal.returns
returns c = replica_forgotten
