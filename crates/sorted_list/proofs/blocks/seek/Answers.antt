use Rattle.std.proofs.Common.{◌<◌, sym, ◌∙◌, arith}
use Rattle.sorted_list.proofs.Edits.{inside_below, inside_last}
use Rattle.sorted_list.proofs.Orders.{absent_before, absent_behind}
use Rattle.sorted_list.proofs.blocks.seek.Goals as goal

pub is_at-requires-clause-block : goal.is_at-requires-clause-block
is_at-requires-clause-block g c =
    inside_below c.args.blocks.now c.place_of-place.result.block _
    (inside_last c.args.blocks.now c.place_of-place.result.block c.place_of-place.result.at c.place_of-place.ensures.within (omega (arith, c.if-place-eq0.false)))

pub is_at-requires-clause-inside : goal.is_at-requires-clause-inside
is_at-requires-clause-inside g c =
    inside_last c.args.blocks.now c.place_of-place.result.block c.place_of-place.result.at c.place_of-place.ensures.within (omega (arith, c.if-place-eq0.false))

pub returns-then-is_at-clause-inside : goal.returns-then-is_at-clause-inside
returns-then-is_at-clause-inside g c =
    inside_last c.args.blocks.now c.place_of-place.result.block c.place_of-place.result.at c.place_of-place.ensures.within (omega (arith, c.if-place-eq0.false))

pub returns-clause-before : goal.returns-clause-before
returns-clause-before g c = λ are.
    let some : 0 < c.place_of-place.result.at = omega (arith, c.if-place-eq0.false) in
    absent_before g.K.Key.order c.args.blocks.now c.place_of-place.result.block c.place_of-place.result.at are (g.F.Front.side c.args.front) (g.met.F.Front.falls c.args.front)
    (inside_last c.args.blocks.now c.place_of-place.result.block c.place_of-place.result.at c.place_of-place.ensures.within some) some (c.place_of-place.ensures.before are) (sym c.is_at.ensures ∙ c.if-is_at.false)

pub returns-clause-rest : goal.returns-clause-rest
returns-clause-rest g c = λ are.
    absent_behind g.K.Key.order c.args.blocks.now c.place_of-place.result.block c.place_of-place.result.at are (g.F.Front.side c.args.front) (g.met.F.Front.falls c.args.front)
    (c.place_of-place.ensures.rest are)
