use Rattle.std.proofs.Common.{◌≡◌, ◌==◌, List, ℕ, sym, ap, ◌∙◌, subst}
use Rattle.std.specs.Prelude.{find}
use Rattle.std.specs.Map.{values_of, lookup}
use Rattle.std.specs.BTreeMap.{insert_entry, is_at}
use Rattle.std.specs.Ordering.{nat_cmp}
use Rattle.std.proofs.lemmas.Result.{IfOk-weaker, on_ok_weaker}
use Rattle.grid_model.specs.Rows.{with_row}
use Rattle.grid_tables.specs.Trees.{IsByNumber}
use Rattle.grid_tables.proofs.Outcomes.{left_by}
use Rattle.grid_tables.proofs.Trees.{put_row, by_number-put, found_row}
use Rattle.grid_tables.proofs.keyed.Keyed.put.Goals as goal

pub invariant_of-self : goal.invariant_of-self
invariant_of-self g c =
    left_by (λ (l : List (ℕ × g.row.T.Denot)). IsByNumber g.T.Numbered.number g.T.Row.row_cmp g.T.Row.fits l) c.put_at.result c.put_at.new.rows.entries
    (insert_entry nat_cmp c.self.inside.rows.entries c.number.result c.args.row) c.self.inside.rows.entries c.put_at.ensures.entries c.put_at.ensures.failed
    (subst (λ n. IsByNumber g.T.Numbered.number g.T.Row.row_cmp g.T.Row.fits (insert_entry nat_cmp c.self.inside.rows.entries n c.args.row)) (sym c.number.ensures)
    (by_number-put g.T.Numbered.number g.T.Row.row_cmp g.met.T.Numbered.by_number g.met.T.Row.total g.T.Row.fits c.args.row c.self.inside.rows.entries c.requires c.self.invariant))
    c.self.invariant

pub returns-clause-put : goal.returns-clause-put
returns-clause-put g c =
    on_ok_weaker c.put_at.result (λ entries.
    ap (λ (l : List (ℕ × g.row.T.Denot)). values_of l) (entries ∙ ap (λ n. insert_entry nat_cmp c.self.inside.rows.entries n c.args.row) c.number.ensures)
    ∙ put_row g.T.Numbered.number g.T.Row.row_cmp g.met.T.Numbered.by_number c.args.row c.self.inside.rows.entries c.self.invariant.keys
    ∙ ap (λ (l : List g.row.T.Denot). with_row g.T.Row.row_cmp l c.args.row) c.self.view_is) c.put_at.ensures.entries

pub returns-clause-replaced : goal.returns-clause-replaced
returns-clause-replaced g c =
    IfOk-weaker c.put_at.result _ _ (λ old is. is ∙ ap (λ n. lookup (is_at (nat_cmp n)) c.self.inside.rows.entries) c.number.ensures
    ∙ found_row g.T.Numbered.number g.T.Row.row_cmp g.met.T.Numbered.by_number (g.T.Numbered.number c.args.row) c.self.inside.rows.entries c.self.invariant.keys
    ∙ ap (λ (l : List g.row.T.Denot). find (λ r. g.T.Numbered.number r == g.T.Numbered.number c.args.row) l) c.self.view_is) c.put_at.ensures.old
