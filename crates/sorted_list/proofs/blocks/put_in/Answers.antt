use Rattle.std.proofs.Common.{Result, Ok, Err, arith}
use Rattle.std.specs.Prelude.{OnErr}
use Rattle.sorted_list.proofs.Edits.{within_below, within_at, joined_insert, joined_same}
use Rattle.sorted_list.proofs.blocks.put_in.Goals as goal

on_err : {A E P : Type 0} (r : Result A E) → P → OnErr r P
on_err (Ok x) p = tt
on_err (Err e) p = p

pub index_mut-block-requires : goal.index_mut-block-requires
index_mut-block-requires g c = omega (arith, within_below c.args.blocks.now.items c.args.place.block c.args.place.at c.requires.within c.requires.some, c.args.blocks.now.ok.0)

pub insert-requires : goal.insert-requires
insert-requires g c =
    omega (
      arith,
      within_at c.args.blocks.now.items c.args.place.block c.args.place.at c.requires.within c.requires.some c.index_mut-block.result.now c.index_mut-block.ensures.value,
      c.index_mut-block.result.now.ok.0,
    )

pub returns-in_err-insert-clause-failed : goal.returns-in_err-insert-clause-failed
returns-in_err-insert-clause-failed g c =
    on_err c.from_residual.result
    (joined_same c.index_mut-block.result.now c.insert.new.self c.args.blocks.now.items c.args.place.block
    (within_below c.args.blocks.now.items c.args.place.block c.args.place.at c.requires.within c.requires.some) c.index_mut-block.ensures.value c.in_err-insert.ensures.items)

pub returns-clause-put : goal.returns-clause-put
returns-clause-put g c =
    joined_insert c.index_mut-block.result.now c.insert.new.self c.args.blocks.now.items c.args.place.block c.args.place.at c.args.key
    (within_below c.args.blocks.now.items c.args.place.block c.args.place.at c.requires.within c.requires.some) c.index_mut-block.ensures.value c.in_ok-insert.ensures.items
