use Rattle.std.proofs.Common.{◌≡◌, ◌==◌, ◌++◌, not, filter, map}
use Rattle.grid_model.specs.declared.deltas.Item.TheVariants as item
use Rattle.plan_list.proofs.children.push_collections.Given as goal

-- what was added so far and what the ids that are left give come to what all give
abbrev pub invariant-loop-id : goal.invariant-loop-id
invariant-loop-id l =
    l.items.items ++ map item.Collection (filter (λ id. not (id == 0)) l.id-iterator) ≡ l.initial.items.items ++ map item.Collection (filter (λ id. not (id == 0)) l.fn.ids)
