use Rattle.std.proofs.Common.{rules, w64}
use Rattle.std.specs.Prelude.{FitsSigned}
use Rattle.std.proofs.lemmas.Int.{to_z-of_z}
use Rattle.reply_fields.proofs.SignedReading.{minus_read, minus_unread}
use Rattle.reply_fields.proofs.signed.negative.Goals as goal

pub returns-in-Ok : goal.returns-in-Ok
returns-in-Ok c =
    let fits : FitsSigned w64 c.negated.result = search rules in
    rw (to_z-of_z w64 c.negated.result fits)
    (minus_read c.args.text.now c.args.at c.in-Ok.next (c.in-Ok.value, c.in-Ok.field-0-0-1) c.negated.result c.requires.place c.requires.minus c.in-Ok.ensures c.negated.ensures)

pub returns-in-Err : goal.returns-in-Err
returns-in-Err c = minus_unread c.args.text.now c.args.at c.in-Err.error c.requires.place c.requires.minus c.in-Err.ensures
