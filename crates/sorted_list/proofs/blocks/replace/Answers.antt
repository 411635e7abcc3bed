use Rattle.std.proofs.Common.{refl, arith}
use Rattle.std.specs.Vec.{with_item}
use Rattle.sorted_list.proofs.Edits.{inside_below, inside_at, joined_set}
use Rattle.sorted_list.proofs.blocks.replace.Goals as goal

pub index_mut-block-requires : goal.index_mut-block-requires
index_mut-block-requires g c = omega (arith, inside_below c.args.blocks.now.items c.args.place.block c.args.place.at c.requires, c.args.blocks.now.ok.0)

pub index_mut-requires : goal.index_mut-requires
index_mut-requires g c =
    omega (arith, inside_at c.args.blocks.now.items c.args.place.block c.args.place.at c.requires c.index_mut-block.result.now c.index_mut-block.ensures.value, c.index_mut-block.result.now.ok.0)

pub returns-clause-keys : goal.returns-clause-keys
returns-clause-keys g c =
    joined_set c.index_mut-block.result.now (with_item c.index_mut-block.result.now c.args.place.at c.args.key) c.args.blocks.now.items c.args.place.block c.args.place.at c.args.key
    c.requires c.index_mut-block.ensures.value refl
