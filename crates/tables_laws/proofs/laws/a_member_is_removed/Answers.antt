use Rattle.tables_laws.proofs.Members.{grid-no_member}
use Rattle.tables_laws.proofs.laws.a_member_is_removed.Goals as goal

pub returns : goal.returns
returns c = grid-no_member
