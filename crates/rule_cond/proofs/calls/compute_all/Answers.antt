use Rattle.std.proofs.Common.{arith}
use Rattle.rule_cond.proofs.SizeLemmas.{long_one}
use Rattle.rule_cond.proofs.calls.compute_all.Goals as goal

pub returns-in-Err : goal.returns-in-Err
returns-in-Err c = λ long.
    long_one c.args.scope.now c.args.args.now c.loop-arg.arg-index c.arg-item.result (omega arith) c.arg-item.is (c.in-Err.ensures long)
