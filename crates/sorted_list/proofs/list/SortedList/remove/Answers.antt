use Rattle.std.proofs.Common.{◌≡◌, Bool, true, false, List, Vec, Global, ap, ◌∙◌, sym, subst}
use Rattle.std.specs.Prelude.{not, filter}
use Rattle.std.specs.List.{AllByRecursion}
use Rattle.std.specs.List.Sorted.{IsStrictlySortedBy}
use Rattle.std.specs.Ordering.{is_eq}
use Rattle.std.specs.declared.cmp.Ordering.TheVariants.{Less, Greater}
use Rattle.sorted_list.specs.Blocks.{joined, AreBlocks, IsInside, IsWithin, in_front, behind, begins}
use Rattle.sorted_list.proofs.Orders.{taken, untaken}
use Rattle.sorted_list.proofs.list.SortedList.remove.Goals as goal
use Rattle.sorted_list.proofs.list.SortedList.remove.Goals.{After-take_out}

left : (g : _) (c : goal.After-take_out g)
    → (joined c.take_out.new.blocks.items ≡ filter (λ k. not (is_eq (g.F.Front.side c.args.front k))) (joined c.self.inside.blocks.items)) × IsStrictlySortedBy g.K.Key.order (joined c.take_out.new.blocks.items)
left g c =
    let test : g.row.K.Denot → Bool = λ k. is_eq (g.F.Front.side c.args.front k) in
    let found = subst (λ (l : List (Vec g.row.K.Denot Global)). IsInside l c.in-Ok.place.block c.in-Ok.place.at × (AreBlocks g.K.Key.order l → begins test (behind l c.in-Ok.place.block c.in-Ok.place.at) ≡ true))
    c.as_slice.ensures.value (c.in-Ok.ensures.inside, c.in-Ok.ensures.found) in
    taken g.K.Key.order c.self.inside.blocks.items c.in-Ok.place.block c.in-Ok.place.at c.self.invariant (g.F.Front.side c.args.front) (g.met.F.Whole.once c.args.front) found.0 (found.1 c.self.invariant)
    (joined c.take_out.new.blocks.items) c.take_out.ensures.keys

pub invariant_of-self : goal.invariant_of-self
invariant_of-self g c = record { filled = c.take_out.ensures.filled c.self.invariant.filled; sorted = (left g c).1 }

pub returns-in-Ok : goal.returns-in-Ok
returns-in-Ok g c = (left g c).0 ∙ ap (λ (l : List g.row.K.Denot). filter (λ k. not (is_eq (g.F.Front.side c.args.front k))) l) c.self.view_is

pub returns-in-Err : goal.returns-in-Err
returns-in-Err g c =
    let side = g.F.Front.side c.args.front in
    let place = c.in-Err.field-0 in
    let found = subst (λ (l : List (Vec g.row.K.Denot Global)). IsWithin l place.block place.at
    × (AreBlocks g.K.Key.order l → AllByRecursion (λ k. side k ≡ Greater) (in_front l place.block place.at))
    × (AreBlocks g.K.Key.order l → AllByRecursion (λ k. side k ≡ Less) (behind l place.block place.at)))
    c.as_slice.ensures.value (c.in-Err.ensures.within, c.in-Err.ensures.before, c.in-Err.ensures.rest) in
    let same = untaken g.K.Key.order c.self.inside.blocks.items place.block place.at c.self.invariant side found.0 (found.1 c.self.invariant) (found.2 c.self.invariant) in
    subst (λ (l : List g.row.K.Denot). l ≡ filter (λ k. not (is_eq (side k))) l) c.self.view_is same
