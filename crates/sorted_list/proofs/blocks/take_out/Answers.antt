use Rattle.std.proofs.Common.{◌≡◌, List, Vec, length, ap, ◌∙◌, sym, arith}
use Rattle.sorted_list.specs.Blocks.{joined}
use Rattle.sorted_list.proofs.Edits.{inside_below, inside_at, joined_remove, joined_dropped}
use Rattle.sorted_list.proofs.blocks.take_out.Goals as goal

pub index-requires : goal.index-requires
index-requires g c = omega (arith, inside_below c.args.blocks.now.items c.args.place.block c.args.place.at c.requires, c.args.blocks.now.ok.0)

pub remove-requires : goal.remove-requires
remove-requires g c = omega (arith, inside_below c.args.blocks.now.items c.args.place.block c.args.place.at c.requires, c.args.blocks.now.ok.0)

pub returns-then-len-eq1-clause-keys : goal.returns-then-len-eq1-clause-keys
returns-then-len-eq1-clause-keys g c =
    let one : length c.index.result.now.items ≡ 1 = omega (arith, c.if-len-eq1.true, c.len.ensures, c.index.result.now.ok.0) in
    ap joined c.remove.ensures.items ∙ joined_dropped c.index.result.now c.args.blocks.now.items c.args.place.block c.args.place.at c.requires c.index.ensures one

pub index_mut-block-requires : goal.index_mut-block-requires
index_mut-block-requires g c = omega (arith, inside_below c.args.blocks.now.items c.args.place.block c.args.place.at c.requires, c.args.blocks.now.ok.0)

pub take_one-requires : goal.take_one-requires
take_one-requires g c = inside_at c.args.blocks.now.items c.args.place.block c.args.place.at c.requires c.index_mut-block.result.now c.index_mut-block.ensures.value

pub returns-clause-keys : goal.returns-clause-keys
returns-clause-keys g c =
    joined_remove c.index_mut-block.result.now c.take_one.new.block c.args.blocks.now.items c.args.place.block c.args.place.at c.requires c.index_mut-block.ensures.value c.take_one.ensures
