use Rattle.std.proofs.Common.{◌≡◌, ◌==◌, ◌<◌, ℕ, List, true, false, subst}
use Rattle.std.specs.Prelude.{IfSome}
use Rattle.std.specs.List.{list_any}
use Rattle.grid_tables.proofs.indexed.Indexed.last.Goals as goal

pub returns-clause-greatest : goal.returns-clause-greatest
returns-clause-greatest g c =
    subst (λ (l : List g.row.T.Denot). IfSome c.last.result (λ row. (id : ℕ) → g.T.Numbered.number row.now < id → list_any (λ r. g.T.Numbered.number r == id) l ≡ false)) c.self.view_is c.last.ensures.greatest

pub returns-clause-there : goal.returns-clause-there
returns-clause-there g c =
    subst (λ (l : List g.row.T.Denot). IfSome c.last.result (λ row. list_any (λ r. g.T.Numbered.number r == g.T.Numbered.number row.now) l ≡ true)) c.self.view_is c.last.ensures.there
