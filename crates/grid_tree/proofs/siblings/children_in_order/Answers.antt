use Rattle.std.proofs.Common.{rules}
use Rattle.std.proofs.lemmas.List.Sorted.{IsNonDecreasingBy-from_sort_by_key}
use Rattle.grid_tree.specs.declared.siblings.Child.{Child}
use Rattle.grid_tree.proofs.ChildLemmas.{in_order}
use Rattle.grid_tree.proofs.siblings.children_in_order.Goals as goal

pub returns : goal.returns
returns c =
    let rises = IsNonDecreasingBy-from_sort_by_key (λ (k : Child). k.place) _ c.in_ok-sort_by_key.ensures.sorted (λ a r f k. search rules) in
    in_order c.args.tables.now c.args.parent c.in_ok-found.found.items _ c.in_ok-found.ensures c.in_ok-sort_by_key.ensures.permutation rises
