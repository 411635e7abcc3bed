use Rattle.std.proofs.Common.{Ok, Err}
use Rattle.grid_model.specs.declared.refusal.Refusal.TheVariants as refusal
use Rattle.grid_model.specs.declared.refusal.Failure.TheVariants as failure
use Rattle.reply_reader.specs.Fields.{IsField}
use Rattle.reply_reader.proofs.Readings.{reads_image}
use Rattle.reply_reader.proofs.failures.fault.Goals as goal

pub returns-in-Ok : goal.returns-in-Ok
returns-in-Ok c = reads_image (λ slot. failure.Refused (refusal.Fault slot)) (IsField 255 0x0A) c.args.text.now c.args.at (Ok (c.in-Ok.slot, c.in-Ok.next)) c.in-Ok.ensures

pub returns-in-Err : goal.returns-in-Err
returns-in-Err c = reads_image (λ slot. failure.Refused (refusal.Fault slot)) (IsField 255 0x0A) c.args.text.now c.args.at (Err c.in-Err.error) c.in-Err.ensures
