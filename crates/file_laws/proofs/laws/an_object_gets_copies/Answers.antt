use Rattle.file_laws.proofs.Publics.{copies_is_plan}
use Rattle.file_laws.proofs.laws.an_object_gets_copies.Goals as goal

pub returns : goal.returns
returns c = copies_is_plan
