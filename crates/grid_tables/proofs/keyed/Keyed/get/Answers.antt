use Rattle.std.proofs.Common.{◌==◌, List, ap, ◌∙◌}
use Rattle.std.specs.Prelude.{find}
use Rattle.grid_tables.proofs.Trees.{found_row}
use Rattle.grid_tables.proofs.keyed.Keyed.get.Goals as goal

pub returns-clause-row : goal.returns-clause-row
returns-clause-row g c =
    c.get_recent.ensures.value ∙ found_row g.T.Numbered.number g.T.Row.row_cmp g.met.T.Numbered.by_number c.args.id c.self.inside.rows.entries c.self.invariant.keys
    ∙ ap (λ (l : List g.row.T.Denot). find (λ r. g.T.Numbered.number r == c.args.id) l) c.self.view_is
