use Rattle.file_laws.proofs.Publics.{resource_turns}
use Rattle.file_laws.proofs.laws.a_resource_keeps_its_slot.Goals as goal

pub returns : goal.returns
returns c = resource_turns
