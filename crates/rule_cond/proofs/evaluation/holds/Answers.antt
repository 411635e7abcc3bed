use Rattle.std.proofs.Common.{◌∙◌, ap}
use Rattle.grid_model.specs.Parsed.{plain, term_of}
use Rattle.grid_model.specs.Values.{is_true}
use Rattle.rule_cond.proofs.SizeLemmas.{value_in-is}
use Rattle.rule_cond.proofs.evaluation.holds.Goals as goal

pub returns-in_ok-value-in-Some : goal.returns-in_ok-value-in-Some
returns-in_ok-value-in-Some c = λ g has.
    let e = plain (term_of c.in-Some.expr) in
    let same = value_in-is c.args.scope.now g has e in
    let cond = c.in-Some.is in
    rw c.in-Some.is (c.is_true.ensures ∙ ap is_true (c.in_ok-value-in-Some.ensures ∙ same))
