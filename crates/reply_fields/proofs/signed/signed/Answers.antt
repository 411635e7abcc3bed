use Rattle.std.proofs.Common.{◌<◌, ◌≢◌, length, get_or, rules, w64, arith}
use Rattle.std.specs.Prelude.{FitsSigned}
use Rattle.std.proofs.lemmas.Int.{to_z-of_z}
use Rattle.reply_fields.proofs.SignedReading.{plus_read, plus_unread}
use Rattle.reply_fields.proofs.signed.signed.Goals as goal
use Rattle.reply_fields.proofs.signed.signed.Goals.{else-at-text-via-then-at-text+else-text-at-eq45, else-at-text-via-else-at-text}

pub returns-in-Ok : goal.returns-in-Ok
returns-in-Ok c =
    let fits : FitsSigned w64 c.positive.result = search rules in
    rw (to_z-of_z w64 c.positive.result fits)
    (plus_read c.args.text.now c.args.at c.in-Ok.next (c.in-Ok.value, c.in-Ok.field-0-0-1) c.positive.result c.in-Ok.ensures c.positive.ensures)

pub returns-in-Err : goal.returns-in-Err
returns-in-Err c =
    let other : c.args.at < length c.args.text.now → get_or c.args.text.now c.args.at 0 ≢ 0x2D = elim c.else-at-text.branch [
      | else-at-text-via-then-at-text+else-text-at-eq45 w ↦ λ h. w.if-text-at-eq45.false
      | else-at-text-via-else-at-text w ↦ λ h. absurd (omega (arith, h, w.if-at-text.false))
    ] in
    plus_unread c.args.text.now c.args.at c.in-Err.error c.requires other c.in-Err.ensures
