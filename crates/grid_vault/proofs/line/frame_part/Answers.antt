use Rattle.std.proofs.Common.{◌+◌, ◌-◌, ℕ, List, ◌++◌, take, drop, set, arith, ap, ◌∙◌}
use Rattle.std.proofs.lemmas.Fmt.{length-decimal-le}
use Rattle.std.proofs.Math.ListN.{length-set}
use Rattle.std.proofs.lemmas.List.{length-take-le, length-drop}
use Rattle.grid_vault.proofs.Framing.{framed, reaches}
use Rattle.grid_vault.proofs.line.frame_part.Goals as goal

pub write_digits-count_at-requires : goal.write_digits-count_at-requires
write_digits-count_at-requires c =
    let short = length-decimal-le 5 c.args.count (omega arith) (omega arith) c.ranges.count.fits in
    (omega (arith, short), omega (arith, length-set (set c.args.buf.now (32 + c.args.count) 10) 31 10, length-set c.args.buf.now (32 + c.args.count) 10))

-- the count has at most five digits
pub overflow_sub-data_at : goal.overflow_sub-data_at
overflow_sub-data_at c =
    let short = length-decimal-le 5 c.args.count (omega arith) (omega arith) c.ranges.count.fits in
    omega (arith, short, c.write_digits-count_at.ensures.start)

pub copy_from_slice-requires : goal.copy_from_slice-requires
copy_from_slice-requires c =
    let at = c.write_digits-count_at.result in
    let buf = c.write_digits-count_at.new.buf in
    let short = length-decimal-le 5 c.args.count (omega arith) (omega arith) c.ranges.count.fits in
    let size = c.write_digits-count_at.auto.buf ∙ length-set (set c.args.buf.now (32 + c.args.count) 10) 31 10 ∙ length-set c.args.buf.now (32 + c.args.count) 10 ∙ c.requires.room in
    length-take-le (at - (at - 6)) (drop (at - 6) buf) (omega (arith, size, c.write_digits-count_at.ensures.start, length-drop (at - 6) buf)) ∙ omega (arith, short, c.write_digits-count_at.ensures.start)

pub write_digits-requires : goal.write_digits-requires
write_digits-requires c =
    let short = length-decimal-le 5 c.args.count (omega arith) (omega arith) c.ranges.count.fits in
    let at = c.write_digits-count_at.result in
    let buf = c.write_digits-count_at.new.buf in
    let size = c.write_digits-count_at.auto.buf ∙ length-set (set c.args.buf.now (32 + c.args.count) 10) 31 10 ∙ length-set c.args.buf.now (32 + c.args.count) 10 ∙ c.requires.room in
    let long = length-decimal-le 20 c.args.number (omega arith) (omega arith) c.ranges.number.fits in
    (omega (arith, short, long, c.write_digits-count_at.ensures.start), reaches (at - 6) buf _ (omega (arith, size, c.write_digits-count_at.ensures.start)))

pub returns-clause-line : goal.returns-clause-line
returns-clause-line c =
    let at = c.write_digits-count_at.result in
    let counted = c.write_digits-count_at.new.buf in
    let short = length-decimal-le 5 c.args.count (omega arith) (omega arith) c.ranges.count.fits in
    let size = c.write_digits-count_at.auto.buf ∙ length-set (set c.args.buf.now (32 + c.args.count) 10) 31 10 ∙ length-set c.args.buf.now (32 + c.args.count) 10 ∙ c.requires.room in
    let worded = ap (λ (xs : List ℕ). take (at - 6) counted ++ (xs ++ drop (at - (at - 6)) (drop (at - 6) counted))) c.copy_from_slice.ensures.after in
    framed c.args.number c.args.count at (at - 6) (at - (at - 6)) 31 c.args.buf.now counted _ c.write_digits.new.buf (omega arith) (omega (arith, short, c.write_digits-count_at.ensures.start)) (omega (arith, short, c.write_digits-count_at.ensures.start)) c.write_digits-count_at.ensures.start
    (omega (arith, size, c.write_digits-count_at.ensures.start)) c.write_digits-count_at.ensures.written worded c.write_digits.result c.write_digits.ensures.start c.write_digits.ensures.written
