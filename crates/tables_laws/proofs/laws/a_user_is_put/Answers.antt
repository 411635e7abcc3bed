use Rattle.tables_laws.proofs.Users.{grid-user}
use Rattle.tables_laws.proofs.laws.a_user_is_put.Goals as goal

pub returns : goal.returns
returns c = grid-user
