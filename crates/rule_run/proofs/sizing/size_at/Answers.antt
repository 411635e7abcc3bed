use Rattle.rule_run.proofs.Sizes.{object-there, size-found, size-none}
use Rattle.rule_run.proofs.sizing.size_at.Goals as goal

pub unreachable-requires : goal.unreachable-requires
unreachable-requires c =
    object-there c.args.tables.now c.requires.made c.args.path.now c.in-Some.id c.in-Some.ensures c.in-None-object.ensures.row

pub returns-in-None : goal.returns-in-None
returns-in-None c = size-none c.args.tables.now c.requires.made c.args.path.now c.in-None.ensures

pub returns-in-Some-object : goal.returns-in-Some-object
returns-in-Some-object c =
    size-found c.args.tables.now c.requires.made c.args.path.now c.in-Some.id c.in-Some.ensures
    c.in-Some-object.row.now c.in-Some-object.ensures.row
