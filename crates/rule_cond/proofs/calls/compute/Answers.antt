use Rattle.std.proofs.Common.{◌≡◌, false, ◌∙◌, ap, subst}
use Rattle.rule_cond.specs.Sizes.{are_short, args_in}
use Rattle.rule_cond.proofs.SizeLemmas.{same_call, long_call}
use Rattle.rule_cond.specs.declared.error.ComputeError.TheVariants.{LongText}
use Rattle.rule_cond.proofs.calls.compute.Goals as goal

pub returns-in_ok-name-in-Ok-clause-call : goal.returns-in_ok-name-in-Ok-clause-call
returns-in_ok-name-in-Ok-clause-call c = λ g has.
    same_call c.args.scope.now g has c.args.call.now _ _
    (c.in_ok-name-in-Ok.ensures ∙ c.as_slice-in-Ok.ensures)
    (c.in-Ok.ensures.0 ∙ ap (args_in c.args.scope.now) c.as_slice.ensures)

pub returns-in-Err-clause-long : goal.returns-in-Err-clause-long
returns-in-Err-clause-long c = λ long g has.
    let error : c.in-Err.error ≡ LongText = cc in
    long_call c.args.scope.now g has c.args.call.now
    (subst (λ es. are_short (args_in c.args.scope.now es) ≡ false) c.as_slice.ensures (c.in-Err.ensures error))
