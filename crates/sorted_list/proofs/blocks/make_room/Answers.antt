use Rattle.std.proofs.Common.{◌<◌, ◌≤◌, ◌+◌, length, Vec, rules, arith}
use Rattle.std.specs.Prelude.{vec_len}
use Rattle.sorted_list.proofs.Edits.{within_below, moved_low, moved_high, cut_filled}
use Rattle.sorted_list.proofs.blocks.make_room.Goals as goal

pub index-requires : goal.index-requires
index-requires g c = omega (arith, within_below c.args.blocks.now.items c.args.place.block c.args.place.at c.requires.within c.requires.some, c.args.blocks.now.ok.0)

pub overflow_add-is_last : goal.overflow_add-is_last
overflow_add-is_last g c =
    let low : c.args.place.block < vec_len c.args.blocks.now =
    omega (arith, within_below c.args.blocks.now.items c.args.place.block c.args.place.at c.requires.within c.requires.some, c.args.blocks.now.ok.0) in
    omega (arith, c.args.blocks.now.ok.1, c.args.blocks.now.small)

pub cut-requires-clause-within : goal.cut-requires-clause-within
cut-requires-clause-within g c = within_below c.args.blocks.now.items c.args.place.block c.args.place.at c.requires.within c.requires.some

pub returns-then-place-middle-clause-within : goal.returns-then-place-middle-clause-within
returns-then-place-middle-clause-within g c =
    (moved_low c.args.blocks.now.items c.cut.new.blocks.items c.args.place.block c.args.place.at c.middle-middle.result c.in_ok-cut.ensures.cut c.requires.within c.if-place-middle.true).within

pub returns-then-place-middle-clause-front : goal.returns-then-place-middle-clause-front
returns-then-place-middle-clause-front g c =
    (moved_low c.args.blocks.now.items c.cut.new.blocks.items c.args.place.block c.args.place.at c.middle-middle.result c.in_ok-cut.ensures.cut c.requires.within c.if-place-middle.true).front

pub returns-then-place-middle-clause-behind : goal.returns-then-place-middle-clause-behind
returns-then-place-middle-clause-behind g c =
    (moved_low c.args.blocks.now.items c.cut.new.blocks.items c.args.place.block c.args.place.at c.middle-middle.result c.in_ok-cut.ensures.cut c.requires.within c.if-place-middle.true).behind

pub returns-then-place-middle-clause-filled : goal.returns-then-place-middle-clause-filled
returns-then-place-middle-clause-filled g c =
    cut_filled c.args.blocks.now.items c.cut.new.blocks.items c.args.place.block c.middle-middle.result c.in_ok-cut.ensures.cut c.middle-middle.ensures.some c.index.result.now c.index.ensures
    (omega (arith, c.middle-middle.ensures.rest, c.len-count.ensures, c.index.result.now.ok.0))

pub overflow_add-result : goal.overflow_add-result
overflow_add-result g c =
    let low : c.args.place.block < vec_len c.args.blocks.now =
    omega (arith, within_below c.args.blocks.now.items c.args.place.block c.args.place.at c.requires.within c.requires.some, c.args.blocks.now.ok.0) in
    omega (arith, c.args.blocks.now.ok.1, c.args.blocks.now.small)

pub returns-clause-within : goal.returns-clause-within
returns-clause-within g c =
    (moved_high c.args.blocks.now.items c.cut.new.blocks.items c.args.place.block c.args.place.at c.middle-middle.result (c.args.place.block + 1) c.in_ok-cut.ensures.cut c.requires.within
    (omega (arith, c.if-place-middle.false)) (omega arith)).within

pub returns-clause-front : goal.returns-clause-front
returns-clause-front g c =
    (moved_high c.args.blocks.now.items c.cut.new.blocks.items c.args.place.block c.args.place.at c.middle-middle.result (c.args.place.block + 1) c.in_ok-cut.ensures.cut c.requires.within
    (omega (arith, c.if-place-middle.false)) (omega arith)).front

pub returns-clause-behind : goal.returns-clause-behind
returns-clause-behind g c =
    (moved_high c.args.blocks.now.items c.cut.new.blocks.items c.args.place.block c.args.place.at c.middle-middle.result (c.args.place.block + 1) c.in_ok-cut.ensures.cut c.requires.within
    (omega (arith, c.if-place-middle.false)) (omega arith)).behind

pub returns-clause-filled : goal.returns-clause-filled
returns-clause-filled g c =
    cut_filled c.args.blocks.now.items c.cut.new.blocks.items c.args.place.block c.middle-middle.result c.in_ok-cut.ensures.cut c.middle-middle.ensures.some c.index.result.now c.index.ensures
    (omega (arith, c.middle-middle.ensures.rest, c.len-count.ensures, c.index.result.now.ok.0))
