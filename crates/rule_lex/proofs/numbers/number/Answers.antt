use Rattle.std.proofs.Common.{sym, arith, rules, w64}
use Rattle.std.specs.Prelude.{FitsSigned}
use Rattle.std.proofs.lemmas.Bool.{both_ways, eqb-true}
use Rattle.std.proofs.lemmas.Int.{to_z-of_z}
use Rattle.rule_lex.proofs.NumberLemmas.{zero_at, positive_at, minus_at, no_minus, nothing_at}
use Rattle.rule_lex.proofs.numbers.number.Goals as goal
use Rattle.rule_lex.proofs.numbers.number.Goals.{then-is_empty-via-then-is_empty, then-is_empty-via-else-is_empty+then-after-eq48, then-is_empty-via-else-is_empty+else-after-eq48+then-not-is_digit}

pub returns-then-rest-eq48 : goal.returns-then-rest-eq48
returns-then-rest-eq48 c = zero_at c.args.rest.now c.requires.some c.if-rest-eq48.true

pub returns-then-rest-ne45 : goal.returns-then-rest-ne45
returns-then-rest-ne45 c =
    let fits : FitsSigned w64 c.positive.result = search rules in
    rw (to_z-of_z w64 c.positive.result fits, c.positive.ensures)
    (positive_at c.args.rest.now c.leading_digits-digits.result.len c.leading_digits-digits.result.value c.leading_digits-digits.ensures c.if-rest-eq48.false)

pub returns-then-is_empty : goal.returns-then-is_empty
returns-then-is_empty c =
    no_minus c.args.rest.now c.requires.some (omega arith)
    (λ digit. elim c.then-is_empty.branch [
      | then-is_empty-via-then-is_empty w ↦ nothing_at _ (eqb-true _ 0 (sym w.if-is_empty.ensures)) digit
      | then-is_empty-via-else-is_empty+then-after-eq48 w ↦ w.if-after-eq48.true
      | then-is_empty-via-else-is_empty+else-after-eq48+then-not-is_digit w ↦ absurd (both_ways _ (sym w.if-not-is_digit.ensures) digit)
    ])

pub returns : goal.returns
returns c =
    let fits : FitsSigned w64 c.negated.result = search rules in
    rw (to_z-of_z w64 c.negated.result fits, c.negated.ensures)
    (minus_at c.args.rest.now c.leading_digits-digits-2.result.len c.leading_digits-digits-2.result.value c.requires.some (omega arith) c.leading_digits-digits-2.ensures (sym c.if-not-is_digit.ensures) c.if-after-eq48.false)
