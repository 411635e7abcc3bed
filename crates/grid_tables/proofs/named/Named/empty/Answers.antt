use Rattle.grid_tables.proofs.Children.{named_none}
use Rattle.grid_tables.proofs.named.Named.empty.Goals as goal

pub invariant_of-result : goal.invariant_of-result
invariant_of-result g c = named_none g.T.Numbered.number g.T.Placed.parent g.T.Placed.name c.empty.result c.new.result c.empty.ensures c.new.ensures
