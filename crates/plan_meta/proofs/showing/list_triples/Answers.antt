use Rattle.std.proofs.Common.{◌∙◌}
use Rattle.grid_model.specs.RowGrids.{user_name}
use Rattle.plan_base.proofs.AtPaths.{user_known}
use Rattle.plan_meta.specs.Things.{thing_by}
use Rattle.plan_meta.proofs.ShownTriples.{shows}
use Rattle.plan_meta.proofs.showing.list_triples.Goals as goal

pub item_to_see-requires-clause-user : goal.item_to_see-requires-clause-user
item_to_see-requires-clause-user c = user_known c.args.tables.now c.args.user c.requires.user

pub returns-in-Ok-triple_rows : goal.returns-in-Ok-triple_rows
returns-in-Ok-triple_rows c =
    shows c.args.tables.now c.requires.made (user_name c.args.tables.now c.args.user) (thing_by c.args.thing.now) c.in-Ok.ensures.0 c.in-Ok.item c.in-Ok.ensures.1 c.requires.spelled
    c.triples_of.result.now c.triples_of.ensures c.from_vec.result (c.from_vec.ensures ∙ c.in-Ok-triple_rows.ensures)
