use Rattle.std.proofs.Common.{Ok, Err}
use Rattle.grid_model.specs.declared.marks.Mark.TheVariants as mark
use Rattle.reply_reader.specs.Failures.{most_u64}
use Rattle.reply_reader.specs.Fields.{IsDigestField, IsField}
use Rattle.reply_reader.proofs.Readings.{first_unread}
use Rattle.reply_reader.proofs.MarkReading.{LenMark, FoundMark, SentBad, begins_len_mark, begins_found_mark, begins_sent_bad, bad_len, len_found, found_sent}
use Rattle.reply_reader.proofs.mark_fields.bad.Goals as goal

pub returns-in-Err : goal.returns-in-Err
returns-in-Err c = first_unread (IsField 255 0x20) LenMark begins_len_mark c.args.text.now c.args.at c.in-Err.error c.in-Err.ensures

pub returns-in-Err-number_field : goal.returns-in-Err-number_field
returns-in-Err-number_field c =
    let text = c.args.text.now in
    let slot = c.in-Ok.read in
    let error = c.in-Err-number_field.error in
    bad_len text c.args.at slot.1 slot.0 c.in-Ok.ensures (Err error)
    (first_unread (IsField most_u64 0x20) (FoundMark slot.0) (begins_found_mark slot.0) text slot.1 error c.in-Err-number_field.ensures)

pub returns-in-Err-digest_field : goal.returns-in-Err-digest_field
returns-in-Err-digest_field c =
    let text = c.args.text.now in
    let slot = c.in-Ok.read in
    let len = c.in-Ok-number_field.read in
    let error = c.in-Err-digest_field.error in
    bad_len text c.args.at slot.1 slot.0 c.in-Ok.ensures (Err error)
    (len_found text slot.1 len.1 slot.0 len.0 c.in-Ok-number_field.ensures (Err error)
    (first_unread (IsDigestField 0x20) (SentBad slot.0 len.0) (begins_sent_bad slot.0 len.0) text len.1 error c.in-Err-digest_field.ensures))

pub returns-in-Ok-number_field-2 : goal.returns-in-Ok-number_field-2
returns-in-Ok-number_field-2 c =
    let text = c.args.text.now in
    let slot = c.in-Ok.read in
    let len = c.in-Ok-number_field.read in
    let found = c.in-Ok-digest_field.read in
    let sent = c.in-Ok-number_field-2.parts in
    let last = c.in-Ok-number_field-2.last in
    bad_len text c.args.at slot.1 slot.0 c.in-Ok.ensures (Ok (mark.Bad slot.0 len.0 found.0 sent, last))
    (len_found text slot.1 len.1 slot.0 len.0 c.in-Ok-number_field.ensures (Ok (mark.Bad slot.0 len.0 found.0 sent, last))
    (found_sent text len.1 found.1 slot.0 len.0 found.0 c.in-Ok-digest_field.ensures (Ok (sent, last)) c.in-Ok-number_field-2.ensures))

pub returns-in-Err-number_field-2 : goal.returns-in-Err-number_field-2
returns-in-Err-number_field-2 c =
    let text = c.args.text.now in
    let slot = c.in-Ok.read in
    let len = c.in-Ok-number_field.read in
    let found = c.in-Ok-digest_field.read in
    let error = c.in-Err-number_field-2.error in
    bad_len text c.args.at slot.1 slot.0 c.in-Ok.ensures (Err error)
    (len_found text slot.1 len.1 slot.0 len.0 c.in-Ok-number_field.ensures (Err error)
    (found_sent text len.1 found.1 slot.0 len.0 found.0 c.in-Ok-digest_field.ensures (Err error) c.in-Err-number_field-2.ensures))
