use Rattle.tables_laws.proofs.Members.{grid-member}
use Rattle.tables_laws.proofs.laws.a_member_is_added.Goals as goal

pub returns : goal.returns
returns c = grid-member
