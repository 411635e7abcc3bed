use Rattle.std.proofs.Common.{◌≢◌, ◌<◌, ◌+◌, get_or, length, arith}
use Rattle.reply_fields.proofs.CountedReading.{counted_missing, counted_ends}
use Rattle.reply_fields.proofs.counted.counted.Goals as goal
use Rattle.reply_fields.proofs.counted.counted.Goals.{then-end-text-via-then-end-text, then-end-text-via-else-end-text+then-text-end-ne10}

pub returns-then-text-start : goal.returns-then-text-start
returns-then-text-start c = counted_missing c.args.text.now c.args.start c.args.count c.requires c.if-text-start.true

pub returns-then-end-text : goal.returns-then-end-text
returns-then-end-text c =
    let other : c.args.start + c.args.count < length c.args.text.now → get_or c.args.text.now (c.args.start + c.args.count) 0 ≢ 0x0A = elim c.then-end-text.branch [
      | then-end-text-via-then-end-text w ↦ λ h. absurd (omega (arith, h, w.if-end-text.true))
      | then-end-text-via-else-end-text+then-text-end-ne10 w ↦ λ h. w.if-text-end-ne10.true
    ] in
    counted_ends c.args.text.now c.args.start c.args.count (omega (arith, c.requires, c.if-text-start.false)) other
