use Rattle.plan_list.proofs.Listed.{leaves_there}
use Rattle.plan_list.proofs.rows.item_rows.Goals as goal

pub replica_rows-requires-clause-leaves : goal.replica_rows-requires-clause-leaves
replica_rows-requires-clause-leaves c = leaves_there c.args.tables.now c.requires c.in-Object.id c.replicas_of.result.now c.replicas_of.ensures
