use Rattle.std.proofs.Common.{◌≡◌, true, false, List, Vec, Global, Some, None, Option, ap, ◌∙◌, sym, subst}
use Rattle.std.specs.Prelude.{find, slice_get}
use Rattle.std.specs.List.{AllByRecursion}
use Rattle.std.specs.Ordering.{is_eq}
use Rattle.sorted_list.specs.Blocks.{joined, AreBlocks, IsWithin, in_front, behind}
use Rattle.sorted_list.specs.Fronts.{is_before}
use Rattle.sorted_list.proofs.Firsts.{found_key, other_key, no_key}
use Rattle.sorted_list.proofs.list.SortedList.find.Goals as goal

pub returns-then-is_eq : goal.returns-then-is_eq
returns-then-is_eq g c =
    let are = subst (λ (l : List (Vec g.row.K.Denot Global)). AreBlocks g.K.Key.order l) (sym c.as_slice-blocks.ensures.value) c.self.invariant in
    found_key g.K.Key.order (g.F.Front.side c.args.front) (g.met.F.Front.falls c.args.front) c.as_slice-blocks.result.now are c.place_of-place.result.block c.place_of-place.result.at c.place_of-place.ensures.within
    (c.place_of-place.ensures.before are) (c.place_of-place.ensures.rest are) c.in-Some.key.now c.in-Some.ensures (sym (c.is_eq.ensures ∙ ap is_eq c.side.ensures) ∙ c.if-is_eq.true)
    ∙ ap (λ (l : List (Vec g.row.K.Denot Global)). find (λ k. is_eq (g.F.Front.side c.args.front k)) (joined l)) c.as_slice-blocks.ensures.value
    ∙ ap (λ (l : List g.row.K.Denot). find (λ k. is_eq (g.F.Front.side c.args.front k)) l) c.self.view_is

pub returns-else-is_eq : goal.returns-else-is_eq
returns-else-is_eq g c =
    let are = subst (λ (l : List (Vec g.row.K.Denot Global)). AreBlocks g.K.Key.order l) (sym c.as_slice-blocks.ensures.value) c.self.invariant in
    other_key g.K.Key.order (g.F.Front.side c.args.front) (g.met.F.Front.falls c.args.front) c.as_slice-blocks.result.now are c.place_of-place.result.block c.place_of-place.result.at c.place_of-place.ensures.within
    (c.place_of-place.ensures.before are) (c.place_of-place.ensures.rest are) c.in-Some.key.now c.in-Some.ensures (sym (c.is_eq.ensures ∙ ap is_eq c.side.ensures) ∙ c.if-is_eq.false)
    ∙ ap (λ (l : List (Vec g.row.K.Denot Global)). find (λ k. is_eq (g.F.Front.side c.args.front k)) (joined l)) c.as_slice-blocks.ensures.value
    ∙ ap (λ (l : List g.row.K.Denot). find (λ k. is_eq (g.F.Front.side c.args.front k)) l) c.self.view_is

pub returns-in-None : goal.returns-in-None
returns-in-None g c =
    let are = subst (λ (l : List (Vec g.row.K.Denot Global)). AreBlocks g.K.Key.order l) (sym c.as_slice-blocks.ensures.value) c.self.invariant in
    no_key g.K.Key.order (g.F.Front.side c.args.front) (g.met.F.Front.falls c.args.front) c.as_slice-blocks.result.now are c.place_of-place.result.block c.place_of-place.result.at c.place_of-place.ensures.within
    (c.place_of-place.ensures.before are) (c.place_of-place.ensures.rest are) c.in-None.ensures
    ∙ ap (λ (l : List (Vec g.row.K.Denot Global)). find (λ k. is_eq (g.F.Front.side c.args.front k)) (joined l)) c.as_slice-blocks.ensures.value
    ∙ ap (λ (l : List g.row.K.Denot). find (λ k. is_eq (g.F.Front.side c.args.front k)) l) c.self.view_is
