use Rattle.std.proofs.Common.{◌≡◌, ◌∙◌}
use Rattle.std.proofs.lemmas.Result.{IfOk-weaker}
use Rattle.grid_model.specs.Grid.{Grid}
use Rattle.grid_model.specs.Parsed.{plain, term_of}
use Rattle.rule_cond.specs.Scopes.{HasScopeSize, value_on}
use Rattle.rule_cond.specs.Seen.{value_of}
use Rattle.rule_cond.specs.Sizes.{value_in}
use Rattle.rule_cond.proofs.SizeLemmas.{value_in-is}
use Rattle.rule_cond.proofs.evaluation.eval.Goals as goal

pub returns : goal.returns
returns c =
    let scope = c.args.scope.now in
    let e = plain (term_of c.args.expr.now) in
    IfOk-weaker c.value.result
    (λ v. value_of v ≡ value_in scope e)
    (λ v. (g : Grid) → HasScopeSize scope g → value_of v ≡ value_on scope g c.args.expr.now)
    (λ v is g has. is ∙ value_in-is scope g has e)
    c.value.ensures
