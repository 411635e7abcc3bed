use Rattle.std.proofs.Common.{arith, subst}
use Rattle.chain_core.specs.Coding.{TellsNegative}
use Rattle.chain_core.proofs.Coding.{behind_minus, if_ok, front_off}
use Rattle.chain_core.proofs.kinds.number_in.Goals as goal

pub returns-then-text-eq45 : goal.returns-then-text-eq45
returns-then-text-eq45 c =
    if_ok c.negative.result
    (λ code told. behind_minus c.args.text.now code (grind (arith, c.is_empty.ensures, c.if-is_empty.false)) c.if-text-eq45.true
    (subst (λ xs. TellsNegative xs code) (front_off c.args.text.now) told))
    c.negative.ensures
