use Rattle.std.proofs.Common.{sym, ap}
use Rattle.std.specs.Option.{option_copied}
use Rattle.grid_tree.proofs.Named.{sound_of}
use Rattle.plan_base.proofs.AtPaths.{user_known}
use Rattle.plan_object.proofs.GotFiles.{denied, found_row, known_named, no_object, not_named, object_there, planned_any, planned_named}
use Rattle.plan_object.proofs.getting.plan_get.Goals as goal

pub unreachable-requires : goal.unreachable-requires
unreachable-requires c = object_there c.args.tables.now c.requires.made c.args.path.now c.in-Some.id c.in-Some.ensures c.in-None-object.ensures.row

pub may_at-requires-clause-user : goal.may_at-requires-clause-user
may_at-requires-clause-user c = user_known c.args.tables.now c.args.user c.requires.user

pub returns-then-not-may_at : goal.returns-then-not-may_at
returns-then-not-may_at c =
    denied c.args.tables.now c.requires.made _ c.args.path.now _ c.in-Some.id c.in-Some-object.object.now c.in-Some.ensures c.in-Some-object.ensures.row
    (sym (c.if-not-may_at.ensures c.args.path.now (sym c.in-Some.ensures)))

pub first_file-requires-clause-there : goal.first_file-requires-clause-there
first_file-requires-clause-there c = found_row c.args.tables.now c.in-Some.id c.in-Some-object.object.now c.in-Some-object.ensures.row

pub first_file-requires-in-Some-resource_named-clause-there : goal.first_file-requires-in-Some-resource_named-clause-there
first_file-requires-in-Some-resource_named-clause-there c = found_row c.args.tables.now c.in-Some.id c.in-Some-object.object.now c.in-Some-object.ensures.row

pub first_file-requires-in-Some-resource_named-clause-asked : goal.first_file-requires-in-Some-resource_named-clause-asked
first_file-requires-in-Some-resource_named-clause-asked c =
    (known_named c.args.tables.now c.in-Some-asked.name.now (sound_of c.args.tables.now c.requires.made) c.in-Some-resource_named.resource c.in-Some-resource_named.ensures).there

pub returns-in-None : goal.returns-in-None
returns-in-None c = no_object c.args.tables.now c.requires.made _ c.args.path.now _ c.in-None.ensures

pub returns-in-None-asked : goal.returns-in-None-asked
returns-in-None-asked c =
    planned_any c.args.tables.now c.requires.made _ c.args.path.now _ c.in-Some.id c.in-Some-object.object.now c.in-Some.ensures c.in-Some-object.ensures.row
    (c.if-not-may_at.ensures c.args.path.now (sym c.in-Some.ensures)) (ap option_copied c.in-None-asked.is) c.first_file.result c.first_file.ensures

pub returns-in-None-resource_named : goal.returns-in-None-resource_named
returns-in-None-resource_named c =
    not_named c.args.tables.now c.requires.made _ c.args.path.now _ c.in-Some.id c.in-Some-object.object.now c.in-Some.ensures c.in-Some-object.ensures.row
    (c.if-not-may_at.ensures c.args.path.now (sym c.in-Some.ensures)) c.in-Some-asked.name.now (ap option_copied c.in-Some-asked.is) c.in-None-resource_named.ensures

pub returns-in-Some-resource_named : goal.returns-in-Some-resource_named
returns-in-Some-resource_named c =
    planned_named c.args.tables.now c.requires.made _ c.args.path.now _ c.in-Some.id c.in-Some-object.object.now c.in-Some.ensures c.in-Some-object.ensures.row
    (c.if-not-may_at.ensures c.args.path.now (sym c.in-Some.ensures)) c.in-Some-asked.name.now (ap option_copied c.in-Some-asked.is) c.in-Some-resource_named.resource
    c.in-Some-resource_named.ensures c.first_file-in-Some-resource_named.result c.first_file-in-Some-resource_named.ensures
