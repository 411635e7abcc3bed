use Rattle.std.proofs.Common.{ap, ◌∙◌}
use Rattle.grid_model.specs.Writable.{is_word}
use Rattle.std.proofs.lemmas.Result.{IfOk-weaker}
use Rattle.plan_list.proofs.ShownWords.{path_word}
use Rattle.plan_list.proofs.rows.path_text.Goals as goal

pub returns-clause-word : goal.returns-clause-word
returns-clause-word c = IfOk-weaker c.print.result _ _ (λ text is. ap is_word is ∙ path_word c.args.path.now c.names-names.ensures.all) c.print.ensures.text
