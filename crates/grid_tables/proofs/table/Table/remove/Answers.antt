use Rattle.std.proofs.Common.{◌≡◌, List, Some, None, sym, ap, ◌∙◌, Ok, Err, slice_index_or, subst}
use Rattle.std.specs.Prelude.{filter, find, not}
use Rattle.std.specs.List.{remove}
use Rattle.std.specs.List.Sorted.{IsStrictlySortedBy}
use Rattle.grid_model.specs.Rows.{IsTable}
use Rattle.grid_tables.specs.Places.{IsPlace}
use Rattle.grid_tables.proofs.Searching.{AtPlace, at-Ok, at-Err, table_kept}
use Rattle.grid_tables.proofs.table.Table.remove.Goals as goal

at_row : (g : _) (c : goal.After-remove g) → AtPlace g.T.Row.row_cmp (g.Q.Probe.compare c.args.key) (g.met.Q.Probe.below_greater c.args.key) (g.Q.Probe.is_key_of c.args.key)
    (g.met.Q.Probe.decides c.args.key) c.self.inside.rows.items (Some (slice_index_or c.self.inside.rows.items c.in-Ok.index c.remove.result)) (remove c.self.inside.rows.items c.in-Ok.index)
at_row g c =
    at-Ok g.T.Row.row_cmp (g.Q.Probe.compare c.args.key) (g.met.Q.Probe.below_greater c.args.key) (g.Q.Probe.is_key_of c.args.key) (g.met.Q.Probe.decides c.args.key)
    c.self.inside.rows.items c.in-Ok.index c.remove.result c.self.invariant.ordered
    (subst (λ (l : List g.row.T.Denot). IsStrictlySortedBy g.T.Row.row_cmp l → IsPlace (g.Q.Probe.compare c.args.key) l (Ok c.in-Ok.index)) c.deref.ensures.value c.in-Ok.ensures.place
    c.self.invariant.ordered)

at_none : (g : _) (c : goal.In-Err g) → AtPlace g.T.Row.row_cmp (g.Q.Probe.compare c.args.key) (g.met.Q.Probe.below_greater c.args.key) (g.Q.Probe.is_key_of c.args.key)
    (g.met.Q.Probe.decides c.args.key) c.self.inside.rows.items None c.self.inside.rows.items
at_none g c =
    at-Err g.T.Row.row_cmp (g.Q.Probe.compare c.args.key) (g.met.Q.Probe.below_greater c.args.key) (g.Q.Probe.is_key_of c.args.key) (g.met.Q.Probe.decides c.args.key)
    c.self.inside.rows.items c.in-Err.field-0 c.self.invariant.ordered
    (subst (λ (l : List g.row.T.Denot). IsStrictlySortedBy g.T.Row.row_cmp l → IsPlace (g.Q.Probe.compare c.args.key) l (Err c.in-Err.field-0)) c.deref.ensures.value c.in-Err.ensures.place
    c.self.invariant.ordered)

removed : (g : _) (c : goal.After-remove g) → filter (λ r. not (g.Q.Probe.is_key_of c.args.key r)) c.self.inside.rows.items ≡ c.remove.new.self.items
removed g c = (at_row g c).others ∙ sym c.remove.ensures.items

pub invariant_of-self : goal.invariant_of-self
invariant_of-self g c =
    subst (λ (l : List g.row.T.Denot). IsTable g.T.Row.row_cmp g.T.Row.fits l) (removed g c)
    (table_kept g.T.Row.row_cmp g.T.Row.fits (λ r. not (g.Q.Probe.is_key_of c.args.key r)) c.self.inside.rows.items c.self.invariant)

pub returns-in-Ok-clause-left : goal.returns-in-Ok-clause-left
returns-in-Ok-clause-left g c = sym (removed g c) ∙ ap (λ (l : List g.row.T.Denot). filter (λ r. not (g.Q.Probe.is_key_of c.args.key r)) l) c.self.view_is

pub returns-in-Ok-clause-gone : goal.returns-in-Ok-clause-gone
returns-in-Ok-clause-gone g c =
    ap Some c.remove.ensures.value ∙ sym (at_row g c).found ∙ ap (λ (l : List g.row.T.Denot). find (λ r. g.Q.Probe.is_key_of c.args.key r) l) c.self.view_is

pub returns-in-Err-clause-left : goal.returns-in-Err-clause-left
returns-in-Err-clause-left g c = subst (λ (l : List g.row.T.Denot). l ≡ filter (λ r. not (g.Q.Probe.is_key_of c.args.key r)) l) c.self.view_is (sym (at_none g c).others)

pub returns-in-Err-clause-gone : goal.returns-in-Err-clause-gone
returns-in-Err-clause-gone g c = sym (at_none g c).found ∙ ap (λ (l : List g.row.T.Denot). find (λ r. g.Q.Probe.is_key_of c.args.key r) l) c.self.view_is
