use Rattle.std.proofs.Common.{sym, ◌∙◌}
use Rattle.std.proofs.lemmas.Result.{IfOk-weaker}
use Rattle.query_run.proofs.CellTexts.{object-cell}
use Rattle.query_run.proofs.cells.cell.Goals as goal

pub returns-in-Some-object-clause-text : goal.returns-in-Some-object-clause-text
returns-in-Some-object-clause-text c =
    IfOk-weaker c.object_cell.result _ _ (λ text is.
    is ∙ sym (object-cell c.args.tables.now c.args.parts.now c.in-Some-object.object c.in-Some-object.is c.args.column
    (sym c.is_of_replica.ensures ∙ c.if-is_of_replica.false) (sym c.is_of_triple.ensures ∙ c.if-is_of_triple.false) (sym c.is_of_collection.ensures ∙ c.if-is_of_collection.false)))
    c.object_cell.ensures.text
