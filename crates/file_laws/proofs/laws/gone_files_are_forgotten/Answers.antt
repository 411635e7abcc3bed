use Rattle.file_laws.proofs.Publics.{gone_forgotten}
use Rattle.file_laws.proofs.laws.gone_files_are_forgotten.Goals as goal

pub returns : goal.returns
returns c = gone_forgotten
