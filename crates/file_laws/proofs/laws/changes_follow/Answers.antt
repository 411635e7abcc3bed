use Rattle.file_laws.proofs.Turning.{turns_then}
use Rattle.file_laws.proofs.laws.changes_follow.Goals as goal

pub returns : goal.returns
returns c = turns_then
