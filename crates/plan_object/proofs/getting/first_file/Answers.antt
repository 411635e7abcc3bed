use Rattle.std.proofs.Common.{refl}
use Rattle.plan_object.proofs.GotFiles.{is_file, leaf_known, no_file}
use Rattle.plan_object.proofs.getting.first_file.Goals as goal

pub returns-in-None : goal.returns-in-None
returns-in-None c = no_file c.args.tables.now c.requires.made c.args.object.now _ (c.in-None.ensures c.args.object.now c.requires.there)

pub unreachable-requires : goal.unreachable-requires
unreachable-requires c =
    leaf_known c.args.tables.now c.requires.made c.args.object.now _ c.in-Some.replica.now (c.in-Some.ensures c.args.object.now c.requires.there) c.in-None-resource.ensures

pub returns-in-Some-resource : goal.returns-in-Some-resource
returns-in-Some-resource c =
    is_file c.args.tables.now c.requires.made c.args.object.now _ c.in-Some.replica.now c.in-Some-resource.leaf.now _ (c.in-Some.ensures c.args.object.now c.requires.there)
    c.in-Some-resource.ensures refl
