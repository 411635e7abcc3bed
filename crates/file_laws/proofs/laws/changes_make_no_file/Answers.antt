use Rattle.file_laws.proofs.Plain.{one_commit}
use Rattle.file_laws.proofs.laws.changes_make_no_file.Goals as goal

pub returns : goal.returns
returns c = one_commit
