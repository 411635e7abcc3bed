use Rattle.file_laws.proofs.Publics.{repl_is_plan}
use Rattle.file_laws.proofs.laws.an_object_gets_replicas.Goals as goal

pub returns : goal.returns
returns c = repl_is_plan
