use Rattle.file_laws.proofs.Publics.{staled_turns}
use Rattle.file_laws.proofs.laws.replicas_become_stale.Goals as goal

pub returns : goal.returns
returns c = staled_turns
