use Rattle.std.proofs.Common.{◌≡◌, ◌++◌, List, ◌∷◌, [], ap, ◌∙◌}
use Rattle.grid_tables.proofs.Searching.{one_row}
use Rattle.grid_tables.proofs.table.Table.of.Goals as goal

pub invariant_of-result : goal.invariant_of-result
invariant_of-result g c =
    one_row g.T.Row.row_cmp g.met.T.Row.total g.T.Row.fits c.args.row c.requires c.push.new.self.items
    (c.in-Ok-push.ensures.items ∙ ap (λ (l : List g.row.T.Denot). l ++ c.args.row ∷ []) c.in-Ok.ensures.items)
