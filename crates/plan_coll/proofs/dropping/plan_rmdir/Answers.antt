use Rattle.std.proofs.Common.{refl, sym, ap, ◌∙◌}
use Rattle.std.specs.Prelude.{not}
use Rattle.grid_model.specs.Applying.{is_empty_collection}
use Rattle.plan_base.proofs.AtPaths.{user_known}
use Rattle.plan_coll.proofs.DroppedCollections.{refused_nothing, refused_level, refused_fixed, refused_held, planned}
use Rattle.plan_coll.proofs.dropping.plan_rmdir.Goals as goal

pub returns-in-None : goal.returns-in-None
returns-in-None c = refused_nothing c.args.tables.now c.requires.made c.args.user c.args.path.now c.in-None.ensures

pub may_at-requires-clause-user : goal.may_at-requires-clause-user
may_at-requires-clause-user c = user_known c.args.tables.now c.args.user c.requires.user

pub returns-then-not-may_at : goal.returns-then-not-may_at
returns-then-not-may_at c =
    refused_level c.args.tables.now c.requires.made c.args.user c.args.path.now c.in-Some.id (sym c.in-Some.ensures)
    (sym (c.may_at.ensures c.args.path.now (sym c.in-Some.ensures)) ∙ c.if-not-may_at.true)

pub returns-then-is_fixed : goal.returns-then-is_fixed
returns-then-is_fixed c =
    refused_fixed c.args.tables.now c.requires.made c.args.user c.args.path.now c.in-Some.id (sym c.in-Some.ensures)
    (sym (c.may_at.ensures c.args.path.now (sym c.in-Some.ensures)) ∙ c.if-not-may_at.false) (sym c.is_fixed.ensures ∙ c.if-is_fixed.true)

pub returns-then-not-is_empty_collection : goal.returns-then-not-is_empty_collection
returns-then-not-is_empty_collection c =
    refused_held c.args.tables.now c.requires.made c.args.user c.args.path.now c.in-Some.id (sym c.in-Some.ensures)
    (sym (c.may_at.ensures c.args.path.now (sym c.in-Some.ensures)) ∙ c.if-not-may_at.false) (sym c.is_fixed.ensures ∙ c.if-is_fixed.false)
    (not (is_empty_collection c.args.tables.now c.in-Some.id)) refl (ap not (sym c.is_empty_collection.ensures ∙ c.if-not-is_empty_collection.true))

pub returns-in-Ok : goal.returns-in-Ok
returns-in-Ok c =
    planned c.args.tables.now c.requires.made c.args.user c.args.path.now c.in-Some.id (sym c.in-Some.ensures)
    (sym (c.may_at.ensures c.args.path.now (sym c.in-Some.ensures)) ∙ c.if-not-may_at.false) (sym c.is_fixed.ensures ∙ c.if-is_fixed.false)
    (not (is_empty_collection c.args.tables.now c.in-Some.id)) refl (ap not (sym c.is_empty_collection.ensures ∙ c.if-not-is_empty_collection.false))
    c.in-Ok.deltas c.in-Ok.ensures.changes c.in-Ok.ensures.spelled
