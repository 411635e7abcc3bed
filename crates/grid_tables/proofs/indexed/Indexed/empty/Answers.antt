use Rattle.grid_tables.proofs.IndexKeys.{keys-none}
use Rattle.grid_tables.proofs.indexed.Indexed.empty.Goals as goal

pub invariant_of-result : goal.invariant_of-result
invariant_of-result g c = keys-none g.K.IndexKey.of g.K.Key.order c.empty.result c.new.result c.empty.ensures c.new.ensures
