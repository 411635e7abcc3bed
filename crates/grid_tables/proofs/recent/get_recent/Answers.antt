use Rattle.grid_tables.proofs.EntryValues.{value_at}
use Rattle.grid_tables.proofs.recent.get_recent.Goals as goal

pub returns-in-Equal-clause-member : goal.returns-in-Equal-clause-member
returns-in-Equal-clause-member g c = (_, value_at c.args.map.now.entries _ (c.in-Some.last.now, c.in-Some.value.now) c.in-Some.ensures.last)
