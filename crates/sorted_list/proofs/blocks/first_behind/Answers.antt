use Rattle.std.proofs.Common.{◌+◌, arith}
use Rattle.std.specs.Option.{option_copied}
use Rattle.sorted_list.proofs.Firsts.{first_here, first_later, first_nowhere}
use Rattle.sorted_list.proofs.blocks.first_behind.Goals as goal

pub returns-in-Some-get : goal.returns-in-Some-get
returns-in-Some-get g c =
    first_here c.args.blocks.now c.args.place.block c.args.place.at (c.args.place.block + 1) (omega arith) c.in-Some.block.now c.in-Some.ensures.lookup.3.0 c.in-Some.ensures.lookup.1 c.deref.result.now c.deref.ensures.value
    c.in-Some-get.key.now c.in-Some-get.ensures.lookup.3.0 c.in-Some-get.ensures.lookup.1

pub returns-in-None-get : goal.returns-in-None-get
returns-in-None-get g c =
    first_later c.args.blocks.now c.args.place.block c.args.place.at (c.args.place.block + 1) (omega arith) c.in-Some.block.now c.in-Some.ensures.lookup.3.0 c.in-Some.ensures.lookup.1 c.deref.result.now c.deref.ensures.value
    c.in-None-get.ensures.lookup.3 (option_copied c.first_of.result) c.first_of.ensures

pub returns-in-None : goal.returns-in-None
returns-in-None g c = first_nowhere c.args.blocks.now c.args.place.block c.args.place.at c.requires.within c.in-None.ensures.lookup.3
