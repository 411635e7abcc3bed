use Rattle.std.proofs.Common.{Ok, Err}
use Rattle.grid_model.specs.declared.marks.Mark.TheVariants as mark
use Rattle.reply_reader.specs.Failures.{most_u64}
use Rattle.reply_reader.specs.Fields.{IsField}
use Rattle.reply_reader.proofs.Readings.{first_unread, then_image}
use Rattle.reply_reader.proofs.FieldReading.{IsCode-field}
use Rattle.reply_reader.proofs.FailureReading.{mid_u8}
use Rattle.reply_reader.proofs.MarkReading.{Sent, begins_sent}
use Rattle.reply_reader.proofs.mark_fields.fault.Goals as goal

pub returns-in-Err : goal.returns-in-Err
returns-in-Err c = first_unread (IsField 255 0x20) Sent begins_sent c.args.text.now c.args.at c.in-Err.error c.in-Err.ensures

pub returns-in-Ok-number_field : goal.returns-in-Ok-number_field
returns-in-Ok-number_field c = then_image (IsField 255 0x20) (λ _. IsField most_u64 0x0A) (λ x y. mark.Fault x y) (IsCode-field 255 0x20 mid_u8) c.args.text.now c.args.at c.in-Ok.read.1 c.in-Ok.read.0 c.in-Ok.ensures (Ok (c.in-Ok-number_field.parts, c.in-Ok-number_field.last)) c.in-Ok-number_field.ensures

pub returns-in-Err-number_field : goal.returns-in-Err-number_field
returns-in-Err-number_field c = then_image (IsField 255 0x20) (λ _. IsField most_u64 0x0A) (λ x y. mark.Fault x y) (IsCode-field 255 0x20 mid_u8) c.args.text.now c.args.at c.in-Ok.read.1 c.in-Ok.read.0 c.in-Ok.ensures (Err c.in-Err-number_field.error) c.in-Err-number_field.ensures
