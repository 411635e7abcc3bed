use Rattle.std.proofs.Common.{◌≡◌, List, ℕ, sym, ap, ◌∙◌, subst}
use Rattle.std.specs.Prelude.{map}
use Rattle.std.specs.List.Sorted.{IsStrictlyIncreasing}
use Rattle.grid_model.proofs.RowOrders.{lower_id}
use Rattle.grid_model.proofs.TableLemmas.{IsStrictlyIncreasing-map}
use Rattle.grid_tables.proofs.table.Table.ids.Goals as goal

pub returns-clause-rising : goal.returns-clause-rising
returns-clause-rising g c =
    let is : c.in_ok-ids.ids.items ≡ map g.T.Numbered.number c.args.self.now =
    c.in_ok-ids.ensures ∙ ap (λ (rows : List g.row.T.Denot). map g.T.Numbered.number rows) c.as_slice-rows.ensures.rows in
    subst (λ (ids : List ℕ). IsStrictlyIncreasing ids) (sym is)
    (IsStrictlyIncreasing-map g.T.Row.row_cmp g.T.Numbered.number (λ a b less. lower_id _ _ (sym (g.met.T.Numbered.by_number a b) ∙ less)) c.args.self.now c.as_slice-rows.ensures.table.ordered)
