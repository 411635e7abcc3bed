use Rattle.file_laws.proofs.Publics.{over_is_plan}
use Rattle.file_laws.proofs.laws.an_object_is_written_over.Goals as goal

pub returns : goal.returns
returns c = over_is_plan
