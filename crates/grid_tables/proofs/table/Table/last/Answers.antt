use Rattle.std.proofs.Common.{◌≡◌, ◌==◌, ◌<◌, ℕ, List, false, sym, subst}
use Rattle.std.specs.Prelude.{IfSome}
use Rattle.std.specs.List.{list_any}
use Rattle.std.specs.List.Sorted.{IsStrictlySortedBy}
use Rattle.grid_tables.proofs.LastIds.{greatest_last}
use Rattle.grid_tables.proofs.table.Table.last.Goals as goal

pub returns-clause-greatest : goal.returns-clause-greatest
returns-clause-greatest g c =
    let sorted = subst (λ (l : List g.row.T.Denot). IsStrictlySortedBy g.T.Row.row_cmp l) (sym c.as_slice-rows.ensures.rows) c.as_slice-rows.ensures.table.ordered in
    subst (λ (l : List g.row.T.Denot). IfSome c.last.result (λ row. (id : ℕ) → g.T.Numbered.number row.now < id → list_any (λ r. g.T.Numbered.number r == id) l ≡ false)) c.as_slice-rows.ensures.rows
    (greatest_last g.T.Numbered.number g.T.Row.row_cmp g.met.T.Numbered.by_number c.as_slice-rows.result.now sorted c.last.result c.last.ensures.item.1)
