use Rattle.std.proofs.Common.{◌==◌, List, subst}
use Rattle.std.specs.Prelude.{filter}
use Rattle.std.specs.Ordering.{nat_cmp}
use Rattle.grid_model.specs.declared.deltas.ReplicaRow.{ReplicaRow}
use Rattle.grid_tables.specs.IndexKeys.{AreKeysOf}
use Rattle.grid_tables.specs.KeyOrders.{leaf_of, leaf_cmp}
use Rattle.grid_tables.specs.Probes.{same_number}
use Rattle.grid_tables.proofs.KeyLookUps.{keys_alike}
use Rattle.grid_tables.proofs.vaults.Replicas.on_leaf.Goals as goal

pub returns : goal.returns
returns c =
    subst (λ (l : List ReplicaRow). AreKeysOf leaf_of leaf_cmp (filter (λ r. r.leaf == c.args.leaf) l) c.at.result) c.self.view_is
    (keys_alike leaf_of leaf_cmp (λ r. nat_cmp c.args.leaf r.leaf) (λ r. r.leaf == c.args.leaf) (λ r. same_number c.args.leaf r.leaf) c.self.inside.rows c.at.result c.at.ensures.keys)
