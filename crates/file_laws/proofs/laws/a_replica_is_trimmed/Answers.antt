use Rattle.file_laws.proofs.Publics.{trim_is_plan}
use Rattle.file_laws.proofs.laws.a_replica_is_trimmed.Goals as goal

pub returns : goal.returns
returns c = trim_is_plan
