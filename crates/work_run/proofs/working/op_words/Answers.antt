use Rattle.std.proofs.Common.{◌≡◌, sym, subst}
use Rattle.std.specs.Prelude.{IfOk}
use Rattle.grid_model.specs.Operations.Table.{Operation}
use Rattle.grid_model.specs.RowGrids.{grid_of}
use Rattle.grid_model.specs.Working.{words_of}
use Rattle.grid_model.specs.declared.requests.Verb.{Verb}
use Rattle.row_run.specs.Verbs.{WorksBy}
use Rattle.work_run.proofs.working.op_words.Goals as goal

pub returns-in-ChkSum-clause-is : goal.returns-in-ChkSum-clause-is
returns-in-ChkSum-clause-is c = λ body op user works.
    subst (λ (o : Operation). IfOk c.sum_words.result (λ words. words ≡ words_of (grid_of c.args.tables.now) user o))
    (sym (subst (λ (v : Verb). WorksBy v body op) c.in-ChkSum.is works)) (c.sum_words.ensures.is user)
