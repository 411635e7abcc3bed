use Rattle.std.proofs.Common.{◌≡◌, List, Some, None, Err, Ok, sym, ap, ◌∙◌, subst, slice_index_or, slice_set}
use Rattle.std.specs.Prelude.{find, insert}
use Rattle.std.specs.List.{remove}
use Rattle.std.specs.List.Sorted.{IsStrictlySortedBy}
use Rattle.std.specs.Ordering.{eq_by_cmp}
use Rattle.std.specs.BTreeMap.Comparable.{le_lt_trans}
use Rattle.std.proofs.lemmas.Result.{IfOk-weaker, on_ok_weaker}
use Rattle.grid_model.specs.Rows.{IsTable, with_row}
use Rattle.grid_model.proofs.TableLemmas.{with_row-at, with_row-before, IsTable-with_row}
use Rattle.grid_tables.specs.Places.{IsPlace}
use Rattle.grid_tables.specs.Probes.{tied}
use Rattle.grid_tables.proofs.Outcomes.{left_by}
use Rattle.grid_tables.proofs.Searching.{AtPlace, at-Err, at-Ok}
use Rattle.grid_tables.proofs.table.Table.put.Goals as goal

place_at : (g : _) (c : goal.After-self-1 g) → IsPlace (g.T.Row.row_cmp c.args.row) c.self.inside.rows.items (Ok c.in-Ok.index)
place_at g c =
    subst (λ (l : List g.row.T.Denot). IsStrictlySortedBy g.T.Row.row_cmp l → IsPlace (g.T.Row.row_cmp c.args.row) l (Ok c.in-Ok.index)) c.deref.ensures.value c.in-Ok.ensures.place
    c.self.invariant.ordered

put_at : (g : _) (c : goal.After-self-1 g) → with_row g.T.Row.row_cmp c.self.inside.rows.items c.args.row ≡ slice_set c.self.inside.rows.items c.in-Ok.index c.replace.new.dest
put_at g c =
    let place = place_at g c in
    with_row-at g.T.Row.row_cmp c.self.inside.rows.items c.args.row c.in-Ok.index place.0 place.1 place.2
    ∙ ap (λ x. slice_set c.self.inside.rows.items c.in-Ok.index x) (sym c.replace.ensures.after)

place_before : (g : _) (c : goal.After-insert_at g) → IsPlace (g.T.Row.row_cmp c.args.row) c.self.inside.rows.items (Err c.in-Err.index)
place_before g c =
    subst (λ (l : List g.row.T.Denot). IsStrictlySortedBy g.T.Row.row_cmp l → IsPlace (g.T.Row.row_cmp c.args.row) l (Err c.in-Err.index)) c.deref.ensures.value c.in-Err.ensures.place
    c.self.invariant.ordered

put_before : (g : _) (c : goal.After-insert_at g) → with_row g.T.Row.row_cmp c.self.inside.rows.items c.args.row ≡ insert c.self.inside.rows.items c.in-Err.index c.args.row
put_before g c =
    let place = place_before g c in
    with_row-before g.T.Row.row_cmp c.self.inside.rows.items c.args.row c.in-Err.index place.0 place.1 place.2

pub invariant_of-self : goal.invariant_of-self
invariant_of-self g c =
    subst (λ (l : List g.row.T.Denot). IsTable g.T.Row.row_cmp g.T.Row.fits l) (put_at g c)
    (IsTable-with_row g.T.Row.row_cmp g.met.T.Row.total g.T.Row.fits c.self.inside.rows.items c.args.row c.requires c.self.invariant)

pub invariant_of-self-in-Err : goal.invariant_of-self-in-Err
invariant_of-self-in-Err g c =
    left_by (λ (l : List g.row.T.Denot). IsTable g.T.Row.row_cmp g.T.Row.fits l) c.insert_at.result c.insert_at.new.rows.items
    (insert c.self.inside.rows.items c.in-Err.index c.args.row) c.self.inside.rows.items c.insert_at.ensures.put c.insert_at.ensures.failed
    (subst (λ (l : List g.row.T.Denot). IsTable g.T.Row.row_cmp g.T.Row.fits l) (put_before g c)
    (IsTable-with_row g.T.Row.row_cmp g.met.T.Row.total g.T.Row.fits c.self.inside.rows.items c.args.row c.requires c.self.invariant))
    c.self.invariant

pub returns-in-Ok-clause-put : goal.returns-in-Ok-clause-put
returns-in-Ok-clause-put g c = sym (put_at g c) ∙ ap (λ (l : List g.row.T.Denot). with_row g.T.Row.row_cmp l c.args.row) c.self.view_is

at_row : (g : _) (c : goal.After-self-1 g) → AtPlace g.T.Row.row_cmp (g.T.Row.row_cmp c.args.row) (λ a b less le. le_lt_trans g.met.T.Row.total c.args.row a b le less)
    (λ r. eq_by_cmp g.T.Row.row_cmp r c.args.row) (tied g.met.T.Row.total c.args.row) c.self.inside.rows.items
    (Some (slice_index_or c.self.inside.rows.items c.in-Ok.index c.index_mut.result.now)) (remove c.self.inside.rows.items c.in-Ok.index)
at_row g c =
    at-Ok g.T.Row.row_cmp (g.T.Row.row_cmp c.args.row) (λ a b less le. le_lt_trans g.met.T.Row.total c.args.row a b le less) (λ r. eq_by_cmp g.T.Row.row_cmp r c.args.row)
    (tied g.met.T.Row.total c.args.row) c.self.inside.rows.items c.in-Ok.index c.index_mut.result.now c.self.invariant.ordered (place_at g c)

pub returns-in-Ok-clause-replaced : goal.returns-in-Ok-clause-replaced
returns-in-Ok-clause-replaced g c =
    ap Some (c.replace.ensures.value ∙ c.index_mut.ensures.value) ∙ sym (at_row g c).found
    ∙ ap (λ (l : List g.row.T.Denot). find (λ r. eq_by_cmp g.T.Row.row_cmp r c.args.row) l) c.self.view_is

pub returns-in-Err-clause-put : goal.returns-in-Err-clause-put
returns-in-Err-clause-put g c =
    on_ok_weaker c.insert_at.result (λ is. is ∙ sym (put_before g c) ∙ ap (λ (l : List g.row.T.Denot). with_row g.T.Row.row_cmp l c.args.row) c.self.view_is) c.insert_at.ensures.put

at_none : (g : _) (c : goal.After-insert_at g) → AtPlace g.T.Row.row_cmp (g.T.Row.row_cmp c.args.row) (λ a b less le. le_lt_trans g.met.T.Row.total c.args.row a b le less)
    (λ r. eq_by_cmp g.T.Row.row_cmp r c.args.row) (tied g.met.T.Row.total c.args.row) c.self.inside.rows.items None c.self.inside.rows.items
at_none g c =
    at-Err g.T.Row.row_cmp (g.T.Row.row_cmp c.args.row) (λ a b less le. le_lt_trans g.met.T.Row.total c.args.row a b le less) (λ r. eq_by_cmp g.T.Row.row_cmp r c.args.row)
    (tied g.met.T.Row.total c.args.row) c.self.inside.rows.items c.in-Err.index c.self.invariant.ordered (place_before g c)

pub returns-in-Err-clause-replaced : goal.returns-in-Err-clause-replaced
returns-in-Err-clause-replaced g c =
    IfOk-weaker c.insert_at.result _ _ (λ old none. none ∙ sym (at_none g c).found
    ∙ ap (λ (l : List g.row.T.Denot). find (λ r. eq_by_cmp g.T.Row.row_cmp r c.args.row) l) c.self.view_is) c.insert_at.ensures.none
