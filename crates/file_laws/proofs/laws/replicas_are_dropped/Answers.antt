use Rattle.file_laws.proofs.Publics.{dropped_turns}
use Rattle.file_laws.proofs.laws.replicas_are_dropped.Goals as goal

pub returns : goal.returns
returns c = dropped_turns
