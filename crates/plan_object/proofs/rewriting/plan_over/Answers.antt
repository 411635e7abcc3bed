use Rattle.plan_object.proofs.PutLemmas.{row_missing}
use Rattle.plan_object.proofs.rewriting.plan_over.Goals as goal

pub unreachable-requires : goal.unreachable-requires
unreachable-requires c = row_missing c.args.tables.now c.args.id c.requires.there c.in-None.ensures.row
