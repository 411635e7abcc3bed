use Rattle.tables_laws.proofs.Triples.{grid-no_triple}
use Rattle.tables_laws.proofs.laws.a_triple_is_removed.Goals as goal

pub returns : goal.returns
returns c = grid-no_triple
