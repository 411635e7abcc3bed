use Rattle.std.proofs.Common.{◌==◌, List, ℕ, sym, ap, ◌∙◌, subst}
use Rattle.std.specs.Prelude.{filter, find, not}
use Rattle.std.specs.Map.{values_of}
use Rattle.grid_tables.specs.Trees.{IsByNumber}
use Rattle.grid_tables.proofs.Trees.{dropped_row, by_number-drop, found_row}
use Rattle.grid_tables.proofs.keyed.Keyed.remove.Goals as goal

pub invariant_of-self : goal.invariant_of-self
invariant_of-self g c =
    subst (λ (l : List (ℕ × g.row.T.Denot)). IsByNumber g.T.Numbered.number g.T.Row.row_cmp g.T.Row.fits l) (sym c.remove.ensures.entries)
    (by_number-drop g.T.Numbered.number g.T.Row.row_cmp g.met.T.Numbered.by_number g.T.Row.fits c.args.id c.self.inside.rows.entries c.self.invariant)

pub returns-clause-left : goal.returns-clause-left
returns-clause-left g c =
    ap (λ (l : List (ℕ × g.row.T.Denot)). values_of l) c.remove.ensures.entries
    ∙ dropped_row g.T.Numbered.number g.T.Row.row_cmp g.met.T.Numbered.by_number c.args.id c.self.inside.rows.entries c.self.invariant.keys c.self.invariant.table.ordered
    ∙ ap (λ (l : List g.row.T.Denot). filter (λ r. not (g.T.Numbered.number r == c.args.id)) l) c.self.view_is

pub returns-clause-gone : goal.returns-clause-gone
returns-clause-gone g c =
    c.remove.ensures.value
    ∙ found_row g.T.Numbered.number g.T.Row.row_cmp g.met.T.Numbered.by_number c.args.id c.self.inside.rows.entries c.self.invariant.keys
    ∙ ap (λ (l : List g.row.T.Denot). find (λ r. g.T.Numbered.number r == c.args.id) l) c.self.view_is
