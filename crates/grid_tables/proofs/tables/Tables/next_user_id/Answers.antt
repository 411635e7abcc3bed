use Rattle.std.proofs.Common.{◌≡◌, ◌==◌, false, subst}
use Rattle.std.specs.Prelude.{IfSome}
use Rattle.std.specs.List.{list_any}
use Rattle.grid_model.specs.Rows.{Cat, has_user}
use Rattle.grid_tables.proofs.LastIds.{next_behind}
use Rattle.grid_tables.proofs.tables.Tables.next_user_id.Goals as goal

pub returns-in-Some-clause-fresh : goal.returns-in-Some-clause-fresh
returns-in-Some-clause-fresh c =
    subst (λ (d : Cat). IfSome c.next_after.result (λ id. has_user d id ≡ false)) c.self.view_is
    (next_behind c.next_after.result c.in-Some.row.now.id (λ id. list_any (λ r. r.id == id) c.self.inside.users) c.next_after.ensures.some c.in-Some.ensures.greatest)
