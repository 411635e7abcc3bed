use Rattle.file_laws.proofs.Removing.{turns_no_object}
use Rattle.file_laws.proofs.laws.an_object_goes.Goals as goal

pub returns : goal.returns
returns c = λ made body id d e. turns_no_object made body d e id
