use Rattle.std.proofs.Common.{sym, ◌∙◌}
use Rattle.grid_model.specs.RowGrids.{user_name}
use Rattle.plan_meta.proofs.FoundItems.{no_collection, collection_closed, collection_found}
use Rattle.plan_meta.proofs.items.collection_open.Goals as goal

pub returns-in-None : goal.returns-in-None
returns-in-None c = no_collection c.args.tables.now c.requires.made (user_name c.args.tables.now c.args.user) c.args.path.now c.args.wanted c.in-None.ensures

pub returns-then-not-may_at : goal.returns-then-not-may_at
returns-then-not-may_at c =
    collection_closed c.args.tables.now c.requires.made (user_name c.args.tables.now c.args.user) c.args.path.now c.args.wanted c.in-Some.id c.in-Some.ensures
    (sym (c.may_at.ensures c.args.path.now (sym c.in-Some.ensures)) ∙ c.if-not-may_at.true)

pub returns : goal.returns
returns c =
    collection_found c.args.tables.now c.requires.made (user_name c.args.tables.now c.args.user) c.args.path.now c.args.wanted c.in-Some.id c.in-Some.ensures
    (sym (c.may_at.ensures c.args.path.now (sym c.in-Some.ensures)) ∙ c.if-not-may_at.false)
