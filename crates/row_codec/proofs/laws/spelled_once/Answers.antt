use Rattle.row_codec.proofs.Spelled.{SpellsDeltas-unique}
use Rattle.row_codec.proofs.laws.spelled_once.Goals as goal

pub returns : goal.returns
returns c = SpellsDeltas-unique
