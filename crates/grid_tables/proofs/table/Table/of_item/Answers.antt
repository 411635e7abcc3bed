use Rattle.std.proofs.Common.{List, sym, ap, ◌∙◌, subst}
use Rattle.std.specs.Prelude.{filter}
use Rattle.std.specs.List.Sorted.{IsStrictlySortedBy}
use Rattle.grid_tables.proofs.Runs.{falls_sorted, run_cut}
use Rattle.grid_tables.proofs.table.Table.of_item.Goals as goal

pub returns : goal.returns
returns g c =
    let side = g.T.OfItem.item_order c.args.kind c.args.id in
    let sorted = subst (λ (l : List g.row.T.Denot). IsStrictlySortedBy g.T.Row.row_cmp l) (sym c.as_slice-rows.ensures.rows) c.as_slice-rows.ensures.table.ordered in
    run_cut side (λ r. g.T.OfItem.is_of r c.args.kind c.args.id) (g.met.T.OfItem.belongs c.args.kind c.args.id) c.as_slice-rows.result.now c.split_at.result.1.now c.split_at-2.result.0.now
    c.before_item-start.result c.first_of_item-count.result (falls_sorted side g.T.Row.row_cmp (g.met.T.OfItem.falls c.args.kind c.args.id) c.as_slice-rows.result.now sorted)
    c.before_item-start.ensures.within c.before_item-start.ensures.place c.split_at.ensures.back c.first_of_item-count.ensures.within c.first_of_item-count.ensures.place c.split_at-2.ensures.front
    ∙ ap (λ (l : List g.row.T.Denot). filter (λ r. g.T.OfItem.is_of r c.args.kind c.args.id) l) c.as_slice-rows.ensures.rows
