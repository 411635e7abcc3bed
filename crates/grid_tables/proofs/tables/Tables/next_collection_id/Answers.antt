use Rattle.std.proofs.Common.{◌≡◌, false, subst}
use Rattle.std.specs.Prelude.{IfSome}
use Rattle.grid_model.specs.Rows.{Cat, has_collection}
use Rattle.grid_tables.proofs.tables.Tables.next_collection_id.Goals as goal

pub returns-clause-fresh : goal.returns-clause-fresh
returns-clause-fresh c = subst (λ (t : Cat). IfSome c.next_id.result (λ id. has_collection t id ≡ false)) c.self.view_is c.next_id.ensures.fresh
