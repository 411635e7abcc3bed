use Rattle.std.proofs.Common.{rules, of_calls}
use Rattle.std.specs.Ordering.{is_gt}
use Rattle.std.proofs.lemmas.Fn.{always_returns_same}
use Rattle.grid_tables.proofs.Runs.{parted_greater}
use Rattle.grid_tables.proofs.table.before_item.Goals as goal

pub returns-clause-place : goal.returns-clause-place
returns-clause-place g c = λ falls.
    c.partition_point.ensures.partitioned (λ r. is_gt (g.T.OfItem.item_order c.args.kind c.args.id r)) (always_returns_same _ _ _ (λ a r f k. search (rules, of_calls)))
    (parted_greater (g.T.OfItem.item_order c.args.kind c.args.id) c.args.rows.now falls)
