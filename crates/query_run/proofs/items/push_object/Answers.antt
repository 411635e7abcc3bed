use Rattle.std.proofs.Common.{sym}
use Rattle.query_run.proofs.ObjectsThere.{object_is_there}
use Rattle.query_run.proofs.items.push_object.Goals as goal

pub may-requires-clause-there : goal.may-requires-clause-there
may-requires-clause-there c = object_is_there c.args.tables.now c.args.id c.in-Some.row.now (sym c.in-Some.ensures.row)
