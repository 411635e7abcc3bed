use Rattle.std.proofs.Common.{◌==◌, subst}
use Rattle.std.specs.Prelude.{filter}
use Rattle.grid_model.specs.Rows.{Cat}
use Rattle.grid_tables.specs.IndexKeys.{AreKeysOf}
use Rattle.grid_tables.specs.KeyOrders.{leaf_of, leaf_cmp}
use Rattle.grid_tables.proofs.tables.Tables.replicas_on.Goals as goal

pub returns : goal.returns
returns c = subst (λ (d : Cat). AreKeysOf leaf_of leaf_cmp (filter (λ r. r.leaf == c.args.leaf) d.replicas) c.on_leaf.result) c.self.view_is c.on_leaf.ensures
