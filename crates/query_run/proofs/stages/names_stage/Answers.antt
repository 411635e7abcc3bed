use Rattle.std.proofs.Common.{ap, ◌∙◌}
use Rattle.std.specs.List.{list_any}
use Rattle.query_run.specs.Stages.{is_of_stage}
use Rattle.query_run.proofs.ListLemmas.{any_first, any_then}
use Rattle.query_run.proofs.stages.names_stage.Goals as goal

pub returns-then-any_column : goal.returns-then-any_column
returns-then-any_column c =
    any_first (is_of_stage c.args.stage) c.args.query.now c.any_column.result (c.any_column.ensures ∙ ap (list_any (is_of_stage c.args.stage)) c.as_slice.ensures) c.if-any_column.true

pub returns-else-any_column : goal.returns-else-any_column
returns-else-any_column c =
    any_then (is_of_stage c.args.stage) c.args.query.now c.any_column.result c.any_cond.result (c.any_column.ensures ∙ ap (list_any (is_of_stage c.args.stage)) c.as_slice.ensures) c.if-any_column.false
    (c.any_cond.ensures ∙ ap (list_any (λ cond. is_of_stage c.args.stage cond.column)) c.as_slice-else-any_column.ensures)
