use Rattle.std.proofs.Common.{◌==◌, Bor}
use Rattle.grid_model.specs.declared.deltas.UserRow.{UserRow}
use Rattle.grid_access.proofs.Made.{there-found}
use Rattle.grid_access.proofs.tests.is_user.Goals as goal

pub returns : goal.returns
returns c =
    there-found (λ (r : UserRow). r.id == c.args.id) c.args.tables.now.users (λ (b : Bor UserRow). b.now) c.user.result c.is_some.result c.user.ensures c.is_some.ensures
