use Rattle.tables_laws.proofs.Grids.{grid-zone}
use Rattle.tables_laws.proofs.laws.a_zone_names_the_grid.Goals as goal

pub returns : goal.returns
returns c = grid-zone
