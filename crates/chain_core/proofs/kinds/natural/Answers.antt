use Rattle.std.proofs.Common.{◌∙◌, sym, w64, arith}
use Rattle.std.proofs.lemmas.Int.{to_z_pos}
use Rattle.chain_core.proofs.Coding.{natural_small, natural_large}
use Rattle.chain_core.proofs.kinds.natural.Goals as goal

pub returns-then-number : goal.returns-then-number
returns-then-number c =
    let is = rw c.in-Some.is at c.in_ok-read_number.ensures.number in
    let fits = rw c.in-Some.is at c.in_ok-read_number.ensures.small in
    λ n small e. natural_small c.args.digits.now c.in-Some.number fits is c.if-number.true n small e ∙ sym (to_z_pos w64 c.in-Some.number (omega (arith, c.if-number.true)))

pub returns-else-number : goal.returns-else-number
returns-else-number c =
    let is = rw c.in-Some.is at c.in_ok-read_number.ensures.number in
    let fits = rw c.in-Some.is at c.in_ok-read_number.ensures.small in
    natural_large c.args.digits.now c.in-Some.number fits is c.if-number.false
