use Rattle.std.proofs.Common.{◌≡◌, ◌==◌, List, false, subst}
use Rattle.std.specs.Prelude.{IfSome}
use Rattle.std.specs.List.{list_any}
use Rattle.grid_tables.proofs.named.Named.next_id.Goals as goal

pub returns-clause-fresh : goal.returns-clause-fresh
returns-clause-fresh g c =
    subst (λ (l : List g.row.T.Denot). IfSome c.next_id.result (λ id. list_any (λ r. g.T.Numbered.number r == id) l ≡ false)) c.self.view_is c.next_id.ensures.fresh
