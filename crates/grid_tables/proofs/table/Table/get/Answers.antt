use Rattle.std.proofs.Common.{List, Some, None, sym, ap, ◌∙◌, slice_index_or, subst}
use Rattle.std.specs.Prelude.{find, ◌&&◌}
use Rattle.std.specs.List.{remove, list_any}
use Rattle.std.specs.List.Sorted.{IsStrictlySortedBy}
use Rattle.grid_tables.proofs.Searching.{AtPlace, at-Ok, at-Err}
use Rattle.grid_tables.proofs.table.Table.get.Goals as goal

at_row : (g : _) (c : goal.After-index-rows-index g) → AtPlace g.T.Row.row_cmp (g.Q.Probe.compare c.args.key) (g.met.Q.Probe.below_greater c.args.key) (g.Q.Probe.is_key_of c.args.key) (g.met.Q.Probe.decides c.args.key)
    c.as_slice-rows.result.now (Some (slice_index_or c.as_slice-rows.result.now c.in-Ok.index c.index-rows-index.result)) (remove c.as_slice-rows.result.now c.in-Ok.index)
at_row g c =
    let sorted = subst (λ (l : List g.row.T.Denot). IsStrictlySortedBy g.T.Row.row_cmp l) (sym c.as_slice-rows.ensures.rows) c.as_slice-rows.ensures.table.ordered in
    at-Ok g.T.Row.row_cmp (g.Q.Probe.compare c.args.key) (g.met.Q.Probe.below_greater c.args.key) (g.Q.Probe.is_key_of c.args.key) (g.met.Q.Probe.decides c.args.key)
    c.as_slice-rows.result.now c.in-Ok.index c.index-rows-index.result sorted (c.in-Ok.ensures.place sorted)

at_none : (g : _) (c : goal.In-Err g) → AtPlace g.T.Row.row_cmp (g.Q.Probe.compare c.args.key) (g.met.Q.Probe.below_greater c.args.key) (g.Q.Probe.is_key_of c.args.key) (g.met.Q.Probe.decides c.args.key)
    c.as_slice-rows.result.now None c.as_slice-rows.result.now
at_none g c =
    let sorted = subst (λ (l : List g.row.T.Denot). IsStrictlySortedBy g.T.Row.row_cmp l) (sym c.as_slice-rows.ensures.rows) c.as_slice-rows.ensures.table.ordered in
    at-Err g.T.Row.row_cmp (g.Q.Probe.compare c.args.key) (g.met.Q.Probe.below_greater c.args.key) (g.Q.Probe.is_key_of c.args.key) (g.met.Q.Probe.decides c.args.key)
    c.as_slice-rows.result.now c.in-Err.field-0 sorted (c.in-Err.ensures.place sorted)

pub returns-in-Ok-clause-row : goal.returns-in-Ok-clause-row
returns-in-Ok-clause-row g c =
    ap Some c.index-rows-index.is ∙ sym (at_row g c).found ∙ ap (λ (l : List g.row.T.Denot). find (λ r. g.Q.Probe.is_key_of c.args.key r) l) c.as_slice-rows.ensures.rows

pub returns-in-Ok-clause-alone : goal.returns-in-Ok-clause-alone
returns-in-Ok-clause-alone g c = λ test.
    ap (λ (l : List g.row.T.Denot). list_any (λ r. g.Q.Probe.is_key_of c.args.key r && test r) l) (sym c.as_slice-rows.ensures.rows) ∙ (at_row g c).alone test ∙ ap test (sym c.index-rows-index.is)

pub returns-in-Err-clause-row : goal.returns-in-Err-clause-row
returns-in-Err-clause-row g c =
    sym (at_none g c).found ∙ ap (λ (l : List g.row.T.Denot). find (λ r. g.Q.Probe.is_key_of c.args.key r) l) c.as_slice-rows.ensures.rows

pub returns-in-Err-clause-alone : goal.returns-in-Err-clause-alone
returns-in-Err-clause-alone g c = λ test.
    ap (λ (l : List g.row.T.Denot). list_any (λ r. g.Q.Probe.is_key_of c.args.key r && test r) l) (sym c.as_slice-rows.ensures.rows) ∙ (at_none g c).alone test
