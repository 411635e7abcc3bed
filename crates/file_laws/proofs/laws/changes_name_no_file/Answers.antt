use Rattle.file_laws.proofs.Turning.{turns_apply_all}
use Rattle.file_laws.proofs.laws.changes_name_no_file.Goals as goal

pub returns : goal.returns
returns c = turns_apply_all
