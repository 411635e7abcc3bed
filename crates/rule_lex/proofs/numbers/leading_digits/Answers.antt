use Rattle.std.proofs.Common.{◌<◌, length, sym, arith}
use Rattle.std.specs.Prelude.{slice_index}
use Rattle.rule_lex.proofs.NumberLemmas.{digits_more, value_more, digit_value, some_digits}
use Rattle.rule_lex.proofs.numbers.leading_digits.Goals as goal

pub loop-len-preserved : goal.loop-len-preserved
loop-len-preserved c =
    let low : c.loop-len.len < length c.args.bytes.now = omega arith in
    record {
      within = omega arith;
      digits = digits_more c.args.bytes.now c.loop-len.len low c.loop-len.invariant.digits (sym c.if-is_digit.ensures);
      value_is = omega (arith, value_more c.args.bytes.now c.loop-len.len low);
      at_most = omega arith;
    }

pub returns-then-next-from : goal.returns-then-next-from
returns-then-next-from c =
    let low : c.loop-len.len < length c.args.bytes.now = omega arith in
    let digit = digit_value (slice_index c.args.bytes.now c.loop-len.len) (sym c.if-is_digit.ensures) in
    record {
      within = omega arith;
      some = some_digits c.args.bytes.now c.loop-len.len c.loop-len.value c.from-in-loop-len.result c.args.most c.loop-len.invariant.value_is (omega arith) (omega (arith, digit)) c.requires.room;
      digits = c.loop-len.invariant.digits;
      value_is = c.loop-len.invariant.value_is;
      at_most = c.loop-len.invariant.at_most;
      ends = λ more is. omega (arith, value_more c.args.bytes.now c.loop-len.len low);
    }
