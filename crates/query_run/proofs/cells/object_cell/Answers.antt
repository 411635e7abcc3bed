use Rattle.std.proofs.Common.{ap, ◌∙◌}
use Rattle.std.proofs.lemmas.Result.{IfOk-weaker}
use Rattle.grid_model.specs.Writable.{is_word}
use Rattle.grid_tree.proofs.NameWords.{name_word}
use Rattle.query_run.proofs.cells.object_cell.Goals as goal

pub returns-in-DataName-clause-word : goal.returns-in-DataName-clause-word
returns-in-DataName-clause-word c =
    IfOk-weaker c.copy_of.result _ _ (λ text is. ap is_word (is ∙ c.as_slice.ensures) ∙ name_word c.args.object.now.name c.requires.named) c.copy_of.ensures
