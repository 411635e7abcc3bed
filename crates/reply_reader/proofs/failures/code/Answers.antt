use Rattle.std.proofs.Common.{Ok, Err, w64}
use Rattle.std.proofs.lemmas.Int.{to_z-of_z}
use Rattle.grid_model.specs.declared.refusal.Failure.TheVariants as failure
use Rattle.reply_fields.specs.SignedLines.{IsSignedLine}
use Rattle.reply_reader.proofs.FailureLines.{signed_to}
use Rattle.reply_reader.proofs.Readings.{reads_image}
use Rattle.reply_reader.proofs.failures.code.Goals as goal

pub returns-in-Ok : goal.returns-in-Ok
returns-in-Ok c =
    let front = c.in-Ok.ensures.front in
    rw (to_z-of_z w64 c.in-Ok.code (signed_to front.spelled c.in-Ok.code front.spells).0)
    (reads_image failure.Code IsSignedLine c.args.text.now c.args.at (Ok (c.in-Ok.code, c.in-Ok.next)) c.in-Ok.ensures)

pub returns-in-Err : goal.returns-in-Err
returns-in-Err c = reads_image failure.Code IsSignedLine c.args.text.now c.args.at (Err c.in-Err.error) c.in-Err.ensures
