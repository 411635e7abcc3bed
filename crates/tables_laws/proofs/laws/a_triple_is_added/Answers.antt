use Rattle.tables_laws.proofs.Triples.{grid-triple}
use Rattle.tables_laws.proofs.laws.a_triple_is_added.Goals as goal

pub returns : goal.returns
returns c = grid-triple
