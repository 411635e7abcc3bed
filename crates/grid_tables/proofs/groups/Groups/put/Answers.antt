use Rattle.std.proofs.Common.{List, sym, ap, ◌∙◌}
use Rattle.std.specs.Prelude.{find}
use Rattle.std.specs.Ordering.{eq_by_cmp}
use Rattle.grid_model.specs.Rows.{with_row}
use Rattle.grid_tables.proofs.Counted.{counted_new, counted_same, put_found, put_rows}
use Rattle.grid_tables.proofs.groups.Groups.put.Goals as goal

pub invariant_of-self : goal.invariant_of-self
invariant_of-self g c =
    counted_same g.T.Grouped.group g.T.Row.row_cmp g.met.T.Row.total g.met.T.Grouped.group_below g.met.T.Grouped.group_tied g.T.Row.fits c.args.row c.requires
    c.self.inside.lists.entries c.put_in.new.lists.entries c.self.inside.count c.self.invariant c.in-Ok-Some.ensures.put c.put_in.ensures.rising
    c.in-Ok-Some.old (sym c.in-Ok-Some.field-0-is ∙ c.in-Ok-Some.ensures.replaced)

pub invariant_of-self-in-Ok-None : goal.invariant_of-self-in-Ok-None
invariant_of-self-in-Ok-None g c =
    counted_new g.T.Grouped.group g.T.Row.row_cmp g.met.T.Row.total g.met.T.Grouped.group_below g.met.T.Grouped.group_tied g.T.Row.fits c.args.row c.requires
    c.self.inside.lists.entries c.put_in.new.lists.entries c.self.inside.count c.self.invariant c.in-Ok-None.ensures.put c.put_in.ensures.rising
    (sym c.in-Ok-None.field-0-is ∙ c.in-Ok-None.ensures.replaced)

pub returns-in-Ok-Some-clause-put : goal.returns-in-Ok-Some-clause-put
returns-in-Ok-Some-clause-put g c =
    put_rows g.T.Grouped.group g.T.Row.row_cmp g.met.T.Row.total g.met.T.Grouped.group_below g.met.T.Grouped.group_tied g.T.Row.fits c.args.row c.requires
    c.self.inside.lists.entries c.put_in.new.lists.entries c.self.inside.count c.self.invariant c.in-Ok-Some.ensures.put c.put_in.ensures.rising
    ∙ ap (λ (l : List g.row.T.Denot). with_row g.T.Row.row_cmp l c.args.row) c.self.view_is

pub returns-in-Ok-Some-clause-replaced : goal.returns-in-Ok-Some-clause-replaced
returns-in-Ok-Some-clause-replaced g c =
    sym c.in-Ok-Some.field-0-is ∙ c.in-Ok-Some.ensures.replaced
    ∙ put_found g.T.Grouped.group g.T.Row.row_cmp g.met.T.Row.total g.met.T.Grouped.group_below g.met.T.Grouped.group_tied g.T.Row.fits c.args.row c.requires
    c.self.inside.lists.entries c.put_in.new.lists.entries c.self.inside.count c.self.invariant c.in-Ok-Some.ensures.put c.put_in.ensures.rising
    ∙ ap (λ (l : List g.row.T.Denot). find (λ r. eq_by_cmp g.T.Row.row_cmp r c.args.row) l) c.self.view_is

pub returns-in-Ok-None-clause-put : goal.returns-in-Ok-None-clause-put
returns-in-Ok-None-clause-put g c =
    put_rows g.T.Grouped.group g.T.Row.row_cmp g.met.T.Row.total g.met.T.Grouped.group_below g.met.T.Grouped.group_tied g.T.Row.fits c.args.row c.requires
    c.self.inside.lists.entries c.put_in.new.lists.entries c.self.inside.count c.self.invariant c.in-Ok-None.ensures.put c.put_in.ensures.rising
    ∙ ap (λ (l : List g.row.T.Denot). with_row g.T.Row.row_cmp l c.args.row) c.self.view_is

pub returns-in-Ok-None-clause-replaced : goal.returns-in-Ok-None-clause-replaced
returns-in-Ok-None-clause-replaced g c =
    sym c.in-Ok-None.field-0-is ∙ c.in-Ok-None.ensures.replaced
    ∙ put_found g.T.Grouped.group g.T.Row.row_cmp g.met.T.Row.total g.met.T.Grouped.group_below g.met.T.Grouped.group_tied g.T.Row.fits c.args.row c.requires
    c.self.inside.lists.entries c.put_in.new.lists.entries c.self.inside.count c.self.invariant c.in-Ok-None.ensures.put c.put_in.ensures.rising
    ∙ ap (λ (l : List g.row.T.Denot). find (λ r. eq_by_cmp g.T.Row.row_cmp r c.args.row) l) c.self.view_is
