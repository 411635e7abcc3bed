use Rattle.std.proofs.Common.{◌≡◌, false, ◌∙◌, arith, subst, sym}
use Rattle.grid_model.specs.Names.{same_text}
use Rattle.rule_cond.proofs.ArgumentLemmas.{argument-later}
use Rattle.rule_cond.proofs.names.argument.Goals as goal

pub loop-index-preserved : goal.loop-index-preserved
loop-index-preserved c =
    c.loop-index.invariant
    ∙ argument-later c.args.params.now c.args.args.now c.args.name.now c.index-params-index.result c.loop-index.index (omega arith) (omega arith) c.index-params-index.is (subst (λ t. same_text t c.args.name.now ≡ false) c.as_slice.ensures (sym c.is_same.ensures ∙ c.if-is_same.false))
