use Rattle.std.proofs.Common.{◌==◌, subst}
use Rattle.std.specs.Prelude.{filter}
use Rattle.std.specs.Ordering.{nat_cmp}
use Rattle.grid_model.specs.Rows.{Cat}
use Rattle.grid_tables.specs.IndexKeys.{AreKeysOf}
use Rattle.grid_tables.specs.KeyOrders.{access_of_row, access_of_user_cmp}
use Rattle.grid_tables.specs.Probes.{same_number}
use Rattle.grid_tables.proofs.KeyLookUps.{keys_alike}
use Rattle.grid_tables.proofs.tables.Tables.items_open_to.Goals as goal

pub returns : goal.returns
returns c =
    subst (λ (d : Cat). AreKeysOf access_of_row access_of_user_cmp (filter (λ r. r.user == c.args.user) d.entries) c.at.result) c.self.view_is
    (keys_alike access_of_row access_of_user_cmp (λ r. nat_cmp c.args.user r.user) (λ r. r.user == c.args.user) (λ r. same_number c.args.user r.user) c.self.inside.entries c.at.result c.at.ensures.keys)
