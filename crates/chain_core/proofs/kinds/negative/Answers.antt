use Rattle.std.proofs.Common.{arith}
use Rattle.chain_core.proofs.Coding.{negative_is, negative_not, minus_of}
use Rattle.chain_core.proofs.kinds.negative.Goals.{else-number-gt0-via-then-number-gt0+else-number, else-number-gt0-via-else-number-gt0}
use Rattle.chain_core.proofs.kinds.negative.Goals as goal

pub returns-then-number : goal.returns-then-number
returns-then-number c =
    let is = rw c.in-Some.is at c.in_ok-read_number.ensures.number in
    let fits = rw c.in-Some.is at c.in_ok-read_number.ensures.small in
    negative_is c.args.digits.now c.in-Some.number _ fits is (minus_of c.in-Some.number c.if-number-gt0.true c.if-number.true)

pub returns-else-number-gt0 : goal.returns-else-number-gt0
returns-else-number-gt0 c =
    let is = rw c.in-Some.is at c.in_ok-read_number.ensures.number in
    let fits = rw c.in-Some.is at c.in_ok-read_number.ensures.small in
    negative_not c.args.digits.now c.in-Some.number _ fits is (λ some small. elim c.else-number-gt0.branch [
      | else-number-gt0-via-then-number-gt0+else-number w ↦ omega (arith, some, small, w.if-number.false)
      | else-number-gt0-via-else-number-gt0 w ↦ omega (arith, some, w.if-number-gt0.false)
    ])
