use Rattle.std.proofs.Common.{ap, ◌∙◌}
use Rattle.std.specs.List.{list_all}
use Rattle.grid_model.specs.QueryRows.{is_of_collection}
use Rattle.query_run.proofs.ListLemmas.{all_first, all_then}
use Rattle.query_run.proofs.stages.names_collections_alone.Goals as goal

pub returns-else-all_columns : goal.returns-else-all_columns
returns-else-all_columns c =
    all_first is_of_collection c.args.query.now c.all_columns.result (c.all_columns.ensures ∙ ap (list_all is_of_collection) c.as_slice.ensures) c.if-all_columns.false

pub returns-then-all_columns : goal.returns-then-all_columns
returns-then-all_columns c =
    all_then is_of_collection c.args.query.now c.all_columns.result c.all_conds.result (c.all_columns.ensures ∙ ap (list_all is_of_collection) c.as_slice.ensures) c.if-all_columns.true
    (c.all_conds.ensures ∙ ap (list_all (λ cond. is_of_collection cond.column)) c.as_slice-then-all_columns.ensures)
