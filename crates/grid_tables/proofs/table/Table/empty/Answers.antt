use Rattle.grid_model.proofs.TableLemmas.{IsTable-none}
use Rattle.grid_tables.proofs.table.Table.empty.Goals as goal

pub invariant_of-result : goal.invariant_of-result
invariant_of-result g c = IsTable-none g.T.Row.row_cmp g.T.Row.fits c.new.result.items c.new.ensures.items
