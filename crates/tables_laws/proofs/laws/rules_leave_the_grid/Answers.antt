use Rattle.tables_laws.proofs.Grids.{grid-rules}
use Rattle.tables_laws.proofs.laws.rules_leave_the_grid.Goals as goal

pub returns : goal.returns
returns c = grid-rules
