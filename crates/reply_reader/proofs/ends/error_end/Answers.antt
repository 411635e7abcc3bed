use Rattle.std.proofs.Common.{◌≡◌, suc, ◌-◌, Ok, Err, arith, sym, subst}
use Rattle.reply_fields.specs.Fronts.{IsRead, ReadsFrom}
use Rattle.reply_reader.specs.Ends.{IsErrorEnd}
use Rattle.reply_reader.specs.Failures.{IsBehind}
use Rattle.reply_reader.proofs.EndReading.{end_unread, pre_then, post_then, head_then}
use Rattle.reply_reader.proofs.ends.error_end.Goals as goal

pub returns-in-Err : goal.returns-in-Err
returns-in-Err c = end_unread c.args.text.now c.args.at c.in-Err.error c.in-Err.ensures

pub returns-in-Ok-failure : goal.returns-in-Ok-failure
returns-in-Ok-failure c = pre_then c.args.text.now c.args.at c.in-Ok.read.1 c.in-Ok.read.0 c.in-Ok.ensures c.if-index-eq0.true (Ok (c.in-Ok-failure.failure, c.in-Ok-failure.last)) c.in-Ok-failure.ensures

pub returns-in-Err-failure : goal.returns-in-Err-failure
returns-in-Err-failure c = pre_then c.args.text.now c.args.at c.in-Ok.read.1 c.in-Ok.read.0 c.in-Ok.ensures c.if-index-eq0.true (Err c.in-Err-failure.error) c.in-Err-failure.ensures

pub returns-in-Ok-failure-2 : goal.returns-in-Ok-failure-2
returns-in-Ok-failure-2 c = post_then c.args.text.now c.args.at c.in-Ok.read.1 c.in-Ok.read.0 c.in-Ok.ensures c.if-index-eq1.true (Ok (c.in-Ok-failure-2.failure, c.in-Ok-failure-2.last)) c.in-Ok-failure-2.ensures

pub returns-in-Err-failure-2 : goal.returns-in-Err-failure-2
returns-in-Err-failure-2 c = post_then c.args.text.now c.args.at c.in-Ok.read.1 c.in-Ok.read.0 c.in-Ok.ensures c.if-index-eq1.true (Err c.in-Err-failure-2.error) c.in-Err-failure-2.ensures

pub returns-in-Ok-behind_head : goal.returns-in-Ok-behind_head
returns-in-Ok-behind_head c =
    let i = c.in-Ok.read.0 in
    let more : i ≡ suc (suc (i - 2)) = omega (arith, c.if-index-eq0.false, c.if-index-eq1.false) in
    subst (λ e. IsRead IsErrorEnd c.args.text.now c.args.at e c.in-Ok-behind_head.last) (sym c.end_of.ensures)
    (head_then c.args.text.now c.args.at c.in-Ok.read.1 i (i - 2) c.in-Ok.ensures more (Ok (c.in-Ok-behind_head.failure, c.in-Ok-behind_head.last))
    (subst (λ h. IsRead (IsBehind h) c.args.text.now c.in-Ok.read.1 c.in-Ok-behind_head.failure c.in-Ok-behind_head.last) c.head_at.ensures c.in-Ok-behind_head.ensures))

pub returns-in-Err-behind_head : goal.returns-in-Err-behind_head
returns-in-Err-behind_head c =
    let i = c.in-Ok.read.0 in
    let more : i ≡ suc (suc (i - 2)) = omega (arith, c.if-index-eq0.false, c.if-index-eq1.false) in
    head_then c.args.text.now c.args.at c.in-Ok.read.1 i (i - 2) c.in-Ok.ensures more (Err c.in-Err-behind_head.error)
    (subst (λ h. ReadsFrom (IsBehind h) c.args.text.now c.in-Ok.read.1 (Err c.in-Err-behind_head.error)) c.head_at.ensures c.in-Err-behind_head.ensures)
