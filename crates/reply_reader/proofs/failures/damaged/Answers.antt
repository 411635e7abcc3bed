use Rattle.std.proofs.Common.{Ok, Err}
use Rattle.grid_model.specs.declared.refusal.Failure.{Failure}
use Rattle.grid_model.specs.declared.refusal.Refusal.TheVariants as refusal
use Rattle.grid_model.specs.declared.refusal.Failure.TheVariants as failure
use Rattle.reply_reader.specs.Failures.{most_u64}
use Rattle.reply_reader.specs.Fields.{IsDigestField, IsField}
use Rattle.reply_reader.proofs.Readings.{first_unread, reads_image}
use Rattle.reply_reader.proofs.FailureReading.{Found, Len, Recorded, Size, begins_found, begins_len, begins_recorded, begins_size, damaged_size, damaged_recorded, damaged_len, damaged_found}
use Rattle.reply_reader.proofs.failures.damaged.Goals as goal

pub returns-in-Err : goal.returns-in-Err
returns-in-Err c = first_unread (IsField 255 0x20) Size begins_size c.args.text.now c.args.at c.in-Err.error c.in-Err.ensures

pub returns-in-Err-number_field : goal.returns-in-Err-number_field
returns-in-Err-number_field c =
    let text = c.args.text.now in
    let slot = c.in-Ok.read in
    let error = c.in-Err-number_field.error in
    damaged_size text c.args.at slot.1 slot.0 c.in-Ok.ensures (Err error)
    (first_unread (IsField most_u64 0x20) (Recorded slot.0) (begins_recorded slot.0) text slot.1 error c.in-Err-number_field.ensures)

pub returns-in-Err-digest_field : goal.returns-in-Err-digest_field
returns-in-Err-digest_field c =
    let text = c.args.text.now in
    let slot = c.in-Ok.read in
    let size = c.in-Ok-number_field.read in
    let error = c.in-Err-digest_field.error in
    damaged_size text c.args.at slot.1 slot.0 c.in-Ok.ensures (Err error)
    (damaged_recorded text slot.1 size.1 slot.0 size.0 c.in-Ok-number_field.ensures (Err error)
    (first_unread (IsDigestField 0x20) (Len slot.0 size.0) (begins_len slot.0 size.0) text size.1 error c.in-Err-digest_field.ensures))

pub returns-in-Err-number_field-2 : goal.returns-in-Err-number_field-2
returns-in-Err-number_field-2 c =
    let text = c.args.text.now in
    let slot = c.in-Ok.read in
    let size = c.in-Ok-number_field.read in
    let digest = c.in-Ok-digest_field.read in
    let error = c.in-Err-number_field-2.error in
    damaged_size text c.args.at slot.1 slot.0 c.in-Ok.ensures (Err error)
    (damaged_recorded text slot.1 size.1 slot.0 size.0 c.in-Ok-number_field.ensures (Err error)
    (damaged_len text size.1 digest.1 slot.0 size.0 digest.0 c.in-Ok-digest_field.ensures (Err error)
    (first_unread (IsField most_u64 0x20) (Found slot.0 size.0 digest.0) (begins_found slot.0 size.0 digest.0) text digest.1 error c.in-Err-number_field-2.ensures)))

pub returns : goal.returns
returns c =
    let text = c.args.text.now in
    let slot = c.in-Ok.read in
    let size = c.in-Ok-number_field.read in
    let digest = c.in-Ok-digest_field.read in
    let len = c.in-Ok-number_field-2.read in
    let found = c.in-Ok-digest_field-2.read.0 in
    let last = c.in-Ok-digest_field-2.read.1 in
    let made : Failure = failure.Refused (refusal.Damaged slot.0 size.0 digest.0 len.0 found) in
    damaged_size text c.args.at slot.1 slot.0 c.in-Ok.ensures (Ok (made, last))
    (damaged_recorded text slot.1 size.1 slot.0 size.0 c.in-Ok-number_field.ensures (Ok (made, last))
    (damaged_len text size.1 digest.1 slot.0 size.0 digest.0 c.in-Ok-digest_field.ensures (Ok (made, last))
    (damaged_found text digest.1 len.1 slot.0 size.0 digest.0 len.0 c.in-Ok-number_field-2.ensures (Ok (made, last))
    (reads_image (λ x. failure.Refused (refusal.Damaged slot.0 size.0 digest.0 len.0 x)) (IsDigestField 0x0A) text len.1 (Ok (found, last)) c.in-Ok-digest_field-2.ensures))))

pub returns-in-Err-digest_field-2 : goal.returns-in-Err-digest_field-2
returns-in-Err-digest_field-2 c =
    let text = c.args.text.now in
    let slot = c.in-Ok.read in
    let size = c.in-Ok-number_field.read in
    let digest = c.in-Ok-digest_field.read in
    let len = c.in-Ok-number_field-2.read in
    let error = c.in-Err-digest_field-2.error in
    damaged_size text c.args.at slot.1 slot.0 c.in-Ok.ensures (Err error)
    (damaged_recorded text slot.1 size.1 slot.0 size.0 c.in-Ok-number_field.ensures (Err error)
    (damaged_len text size.1 digest.1 slot.0 size.0 digest.0 c.in-Ok-digest_field.ensures (Err error)
    (damaged_found text digest.1 len.1 slot.0 size.0 digest.0 len.0 c.in-Ok-number_field-2.ensures (Err error)
    (reads_image (λ x. failure.Refused (refusal.Damaged slot.0 size.0 digest.0 len.0 x)) (IsDigestField 0x0A) text len.1 (Err error) c.in-Err-digest_field-2.ensures))))
