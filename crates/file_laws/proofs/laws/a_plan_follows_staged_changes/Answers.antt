use Rattle.file_laws.proofs.Publics.{staged_then}
use Rattle.file_laws.proofs.laws.a_plan_follows_staged_changes.Goals as goal

pub returns : goal.returns
returns c = staged_then
