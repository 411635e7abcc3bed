use Rattle.tables_laws.proofs.Grids.{grid-unseen}
use Rattle.tables_laws.proofs.laws.unseen_deltas_leave_the_grid.Goals as goal

pub returns : goal.returns
returns c = grid-unseen
