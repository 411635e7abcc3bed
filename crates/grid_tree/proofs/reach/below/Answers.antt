use Rattle.std.proofs.lemmas.Result.{IfOk-weaker}
use Rattle.grid_tree.proofs.StepLemmas.{all_kids, first_kid, leaf_down, leaf_up, none_there}
use Rattle.grid_tree.proofs.reach.below.Goals as goal

pub unreachable-requires : goal.unreachable-requires
unreachable-requires c = none_there c.args.tables.now c.args.id c.requires.there c.in-None.ensures

pub returns-then-row : goal.returns-then-row
returns-then-row c =
    leaf_up c.args.tables.now c.requires.made c.args.id c.in-Some.row.now c.in-Some.ensures c.in-Storage.is c.if-row.true c.requires.there c.in_ok-vec-in-Storage.field-0.items
    c.in_ok-vec-in-Storage.ensures.items

pub returns-else-row : goal.returns-else-row
returns-else-row c = leaf_down c.args.tables.now c.requires.made c.args.id c.in-Some.row.now c.in-Some.ensures c.in-Storage.is c.if-row.false c.new.result.items c.new.ensures.items

pub returns-in_ok-kids-in-Passthru : goal.returns-in_ok-kids-in-Passthru
returns-in_ok-kids-in-Passthru c =
    first_kid c.args.tables.now c.requires.made c.args.id c.in-Some.row.now c.in-Some.ensures c.in-Passthru.is c.in_ok-kids-in-Passthru.kids.items c.truncate.new.self.items c.truncate.ensures.items
    c.in_ok-kids-in-Passthru.ensures

pub returns-in-Random : goal.returns-in-Random
returns-in-Random c =
    IfOk-weaker c.children-in-Random.result _ _ (λ ids are. all_kids c.args.tables.now c.requires.made c.args.id c.in-Some.row.now c.in-Some.ensures c.in-Random.is ids.items are)
    c.children-in-Random.ensures
