use Rattle.std.proofs.Common.{◌≡◌, true, false, sym, ◌∙◌}
use Rattle.std.specs.Cmp.{booleans_Decides}
use Rattle.grid_model.proofs.NewCollections.{at_of}
use Rattle.plan_base.proofs.AtPaths.{user_known}
use Rattle.plan_coll.proofs.FlaggedCollections.{refused_nothing, refused_level, planned, planned_none}
use Rattle.plan_coll.proofs.flags.plan_inherit.Goals as goal

pub returns-in-None : goal.returns-in-None
returns-in-None c = refused_nothing c.args.tables.now c.requires.made c.args.user c.args.path.now c.args.on c.in-None.ensures

pub may_at-requires-clause-user : goal.may_at-requires-clause-user
may_at-requires-clause-user c = user_known c.args.tables.now c.args.user c.requires.user

pub returns-then-not-may_at : goal.returns-then-not-may_at
returns-then-not-may_at c =
    refused_level c.args.tables.now c.requires.made c.args.user c.args.path.now c.args.on c.in-Some.id (sym c.in-Some.ensures)
    (sym (c.may_at.ensures c.args.path.now (sym c.in-Some.ensures)) ∙ c.if-not-may_at.true)

pub flagged_row-requires : goal.flagged_row-requires
flagged_row-requires c = (at_of c.args.tables.now c.in-Some.id c.args.path.now (sym c.in-Some.ensures)).there

pub returns-then-hands_on-on : goal.returns-then-hands_on-on
returns-then-hands_on-on c =
    planned_none c.args.tables.now c.requires.made c.args.user c.args.path.now c.args.on c.in-Some.id (sym c.in-Some.ensures)
    (sym (c.may_at.ensures c.args.path.now (sym c.in-Some.ensures)) ∙ c.if-not-may_at.false) (sym c.hands_on.ensures ∙ (booleans_Decides c.hands_on.result c.args.on).0 c.if-hands_on-on.true) c.from_vec.result
    (c.from_vec.ensures ∙ c.new.ensures.items)

pub returns : goal.returns
returns c =
    planned c.args.tables.now c.requires.made c.args.user c.args.path.now c.args.on c.in-Some.id (sym c.in-Some.ensures)
    (sym (c.may_at.ensures c.args.path.now (sym c.in-Some.ensures)) ∙ c.if-not-may_at.false)
    (λ e. let wrong : false ≡ true = sym c.if-hands_on-on.false ∙ (booleans_Decides c.hands_on.result c.args.on).1 (c.hands_on.ensures ∙ e) in cc)
    c.in-Ok.row c.in-Ok.ensures.row c.in-Ok.ensures.spelled c.from_vec-in-Ok-vec.result (c.from_vec-in-Ok-vec.ensures ∙ c.in-Ok-vec.ensures.items)
