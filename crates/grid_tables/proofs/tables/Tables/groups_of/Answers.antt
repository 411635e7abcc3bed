use Rattle.std.proofs.Common.{◌==◌, subst}
use Rattle.std.specs.Prelude.{filter}
use Rattle.std.specs.Ordering.{nat_cmp}
use Rattle.grid_model.specs.Rows.{Cat}
use Rattle.grid_tables.specs.IndexKeys.{AreKeysOf}
use Rattle.grid_tables.specs.KeyOrders.{group_of, group_cmp}
use Rattle.grid_tables.specs.Probes.{same_number}
use Rattle.grid_tables.proofs.KeyLookUps.{keys_alike}
use Rattle.grid_tables.proofs.tables.Tables.groups_of.Goals as goal

pub returns : goal.returns
returns c =
    subst (λ (d : Cat). AreKeysOf group_of group_cmp (filter (λ r. r.user == c.args.user) d.members) c.at.result) c.self.view_is
    (keys_alike group_of group_cmp (λ r. nat_cmp c.args.user r.user) (λ r. r.user == c.args.user) (λ r. same_number c.args.user r.user) c.self.inside.members c.at.result c.at.ensures.keys)
