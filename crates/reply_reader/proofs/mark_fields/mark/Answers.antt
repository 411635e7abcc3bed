use Rattle.std.proofs.Common.{◌≡◌, ◌<◌, arith}
use Rattle.reply_reader.proofs.MarkReading.{mark_unread, mark_then, stop_read}
use Rattle.reply_reader.proofs.mark_fields.mark.Goals as goal

pub returns-in-Err : goal.returns-in-Err
returns-in-Err c = mark_unread c.args.text.now c.args.at c.in-Err.error c.in-Err.ensures

pub returns-then-index-eq0 : goal.returns-then-index-eq0
returns-then-index-eq0 c = mark_then c.args.text.now c.args.at c.in-Ok.read.1 c.in-Ok.read.0 0 c.in-Ok.ensures c.if-index-eq0.true c.ran.result c.ran.ensures

pub returns-then-index-eq1 : goal.returns-then-index-eq1
returns-then-index-eq1 c = mark_then c.args.text.now c.args.at c.in-Ok.read.1 c.in-Ok.read.0 1 c.in-Ok.ensures c.if-index-eq1.true c.fault.result c.fault.ensures

pub returns-then-index-eq2 : goal.returns-then-index-eq2
returns-then-index-eq2 c = mark_then c.args.text.now c.args.at c.in-Ok.read.1 c.in-Ok.read.0 2 c.in-Ok.ensures c.if-index-eq2.true c.bad.result c.bad.ensures

pub returns : goal.returns
returns c =
    let i = c.in-Ok.read.0 in
    let within : i < 4 = c.in-Ok.ensures.front.spells.within in
    let is : i ≡ 3 = omega (arith, within, c.if-index-eq0.false, c.if-index-eq1.false, c.if-index-eq2.false) in
    stop_read c.args.text.now c.args.at c.in-Ok.read.1 i c.in-Ok.ensures is
