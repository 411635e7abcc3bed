use Rattle.std.proofs.Common.{sym, ◌∙◌}
use Rattle.plan_base.proofs.AtPaths.{user_known}
use Rattle.plan_coll.proofs.MovedItems.{refused_nothing, refused_level, refused_fixed, refused_inside, refused_above, refused_there, refused_taken, some_path, collection_asked, object_asked, planned_collection, planned_object}
use Rattle.plan_coll.proofs.moving.plan_move.Goals as goal

pub returns-in-None : goal.returns-in-None
returns-in-None c = refused_nothing c.args.tables.now c.requires.made c.args.user c.args.from.now c.args.to.now c.in-None.ensures

pub may_at-requires-clause-user : goal.may_at-requires-clause-user
may_at-requires-clause-user c = user_known c.args.tables.now c.args.user c.requires.user

pub returns-then-not-may_at : goal.returns-then-not-may_at
returns-then-not-may_at c =
    refused_level c.args.tables.now c.requires.made c.args.user c.args.from.now c.args.to.now c.in-Some.item c.in-Some.ensures (sym (c.may_at.ensures c.args.from.now c.in-Some.ensures) ∙ c.if-not-may_at.true)

pub returns-then-is_fixed : goal.returns-then-is_fixed
returns-then-is_fixed c =
    refused_fixed c.args.tables.now c.requires.made c.args.user c.args.from.now c.args.to.now c.in-Some.item c.in-Some.ensures
    (sym (c.may_at.ensures c.args.from.now c.in-Some.ensures) ∙ c.if-not-may_at.false) (sym c.is_fixed.ensures ∙ c.if-is_fixed.true)

pub returns-then-is_under : goal.returns-then-is_under
returns-then-is_under c =
    refused_inside c.args.tables.now c.requires.made c.args.user c.args.from.now c.args.to.now c.in-Some.item c.in-Some.ensures
    (sym (c.may_at.ensures c.args.from.now c.in-Some.ensures) ∙ c.if-not-may_at.false) (sym c.is_fixed.ensures ∙ c.if-is_fixed.false) (sym c.is_under.ensures ∙ c.if-is_under.true)

pub returns-in-Err : goal.returns-in-Err
returns-in-Err c =
    refused_above c.args.tables.now c.requires.made c.args.user c.args.from.now c.args.to.now c.in-Some.item c.in-Some.ensures
    (sym (c.may_at.ensures c.args.from.now c.in-Some.ensures) ∙ c.if-not-may_at.false) (sym c.is_fixed.ensures ∙ c.if-is_fixed.false) (sym c.is_under.ensures ∙ c.if-is_under.false)
    c.in-Err.error c.in-Err.ensures

pub may_at-requires-2-clause-user : goal.may_at-requires-2-clause-user
may_at-requires-2-clause-user c = user_known c.args.tables.now c.args.user c.requires.user

pub returns-then-not-may_at-2 : goal.returns-then-not-may_at-2
returns-then-not-may_at-2 c =
    refused_there c.args.tables.now c.requires.made c.args.user c.args.from.now c.args.to.now c.in-Some.item c.in-Some.ensures
    (sym (c.may_at.ensures c.args.from.now c.in-Some.ensures) ∙ c.if-not-may_at.false) (sym c.is_fixed.ensures ∙ c.if-is_fixed.false) (sym c.is_under.ensures ∙ c.if-is_under.false)
    c.in-Ok.parent c.in-Ok.ensures (sym (c.may_at-2.ensures c.in-Ok.ensures.above c.in-Ok.ensures.at) ∙ c.if-not-may_at-2.true)

pub returns-then-is_taken : goal.returns-then-is_taken
returns-then-is_taken c =
    refused_taken c.args.tables.now c.requires.made c.args.user c.args.from.now c.args.to.now c.in-Some.item c.in-Some.ensures
    (sym (c.may_at.ensures c.args.from.now c.in-Some.ensures) ∙ c.if-not-may_at.false) (sym c.is_fixed.ensures ∙ c.if-is_fixed.false) (sym c.is_under.ensures ∙ c.if-is_under.false)
    c.in-Ok.parent c.in-Ok.ensures (sym (c.may_at-2.ensures c.in-Ok.ensures.above c.in-Ok.ensures.at) ∙ c.if-not-may_at-2.false) (sym c.is_taken.ensures ∙ c.if-is_taken.true)

pub moved_collection-requires-clause-there : goal.moved_collection-requires-clause-there
moved_collection-requires-clause-there c = collection_asked c.args.tables.now c.args.from.now c.in-Some.item c.in-Collection.id c.in-Some.ensures c.in-Collection.is

pub moved_collection-requires-clause-named : goal.moved_collection-requires-clause-named
moved_collection-requires-clause-named c = some_path c.args.tables.now c.args.to.now c.in-Ok.parent c.in-Ok.ensures

pub moved_object-requires-clause-there : goal.moved_object-requires-clause-there
moved_object-requires-clause-there c = object_asked c.args.tables.now c.requires.made c.args.from.now c.in-Some.item c.in-Object.id c.in-Some.ensures c.in-Object.is

pub moved_object-requires-clause-named : goal.moved_object-requires-clause-named
moved_object-requires-clause-named c = some_path c.args.tables.now c.args.to.now c.in-Ok.parent c.in-Ok.ensures

pub returns-in-Ok-moved_collection : goal.returns-in-Ok-moved_collection
returns-in-Ok-moved_collection c =
    planned_collection c.args.tables.now c.requires.made c.args.user c.args.from.now c.args.to.now c.in-Some.item c.in-Some.ensures
    (sym (c.may_at.ensures c.args.from.now c.in-Some.ensures) ∙ c.if-not-may_at.false) (sym c.is_fixed.ensures ∙ c.if-is_fixed.false) (sym c.is_under.ensures ∙ c.if-is_under.false)
    c.in-Ok.parent c.in-Ok.ensures (sym (c.may_at-2.ensures c.in-Ok.ensures.above c.in-Ok.ensures.at) ∙ c.if-not-may_at-2.false) (sym c.is_taken.ensures ∙ c.if-is_taken.false)
    c.in-Collection.id c.in-Collection.is c.in-Ok-moved_collection.deltas c.in-Ok-moved_collection.ensures

pub returns-in-Ok-moved_object : goal.returns-in-Ok-moved_object
returns-in-Ok-moved_object c =
    planned_object c.args.tables.now c.requires.made c.args.user c.args.from.now c.args.to.now c.in-Some.item c.in-Some.ensures
    (sym (c.may_at.ensures c.args.from.now c.in-Some.ensures) ∙ c.if-not-may_at.false) (sym c.is_fixed.ensures ∙ c.if-is_fixed.false) (sym c.is_under.ensures ∙ c.if-is_under.false)
    c.in-Ok.parent c.in-Ok.ensures (sym (c.may_at-2.ensures c.in-Ok.ensures.above c.in-Ok.ensures.at) ∙ c.if-not-may_at-2.false) (sym c.is_taken.ensures ∙ c.if-is_taken.false)
    c.in-Object.id c.in-Object.is c.in-Ok-moved_object.deltas c.in-Ok-moved_object.ensures
