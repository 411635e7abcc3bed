use Rattle.std.proofs.Common.{ℕ, Ok, Err, arith}
use Rattle.grid_model.specs.declared.marks.BadReplica.{BadReplica}
use Rattle.reply_reader.proofs.BadReading.{bad_unread, number_unread, len_unread, found_unread, bad_number, number_len, len_found, found_behind, behind_unread, behind_space, behind_newline}
use Rattle.reply_reader.proofs.bad_replicas.bad_replica.Goals as goal

pub returns-in-Err : goal.returns-in-Err
returns-in-Err c = bad_unread c.args.text.now c.args.at c.in-Err.error c.in-Err.ensures

pub returns-in-Err-number_field : goal.returns-in-Err-number_field
returns-in-Err-number_field c =
    let text = c.args.text.now in
    let name = c.in-Ok.read in
    let error = c.in-Err-number_field.error in
    bad_number text c.args.at name.1 name.0 c.in-Ok.ensures (Err error) (number_unread text name.1 name.0 error c.in-Err-number_field.ensures)

pub returns-in-Err-number_field-2 : goal.returns-in-Err-number_field-2
returns-in-Err-number_field-2 c =
    let text = c.args.text.now in
    let name = c.in-Ok.read in
    let number = c.in-Ok-number_field.read in
    let error = c.in-Err-number_field-2.error in
    bad_number text c.args.at name.1 name.0 c.in-Ok.ensures (Err error)
    (number_len text name.1 number.1 name.0 number.0 c.in-Ok-number_field.ensures (Err error)
    (len_unread text number.1 number.0 error c.in-Err-number_field-2.ensures))

pub returns-in-Err-digest : goal.returns-in-Err-digest
returns-in-Err-digest c =
    let text = c.args.text.now in
    let name = c.in-Ok.read in
    let number = c.in-Ok-number_field.read in
    let len = c.in-Ok-number_field-2.read in
    let error = c.in-Err-digest.error in
    bad_number text c.args.at name.1 name.0 c.in-Ok.ensures (Err error)
    (number_len text name.1 number.1 name.0 number.0 c.in-Ok-number_field.ensures (Err error)
    (len_found text number.1 len.1 number.0 len.0 c.in-Ok-number_field-2.ensures (Err error)
    (found_unread text len.1 number.0 len.0 error c.in-Err-digest.ensures)))

pub returns-in-Err-one_of : goal.returns-in-Err-one_of
returns-in-Err-one_of c =
    let text = c.args.text.now in
    let name = c.in-Ok.read in
    let number = c.in-Ok-number_field.read in
    let len = c.in-Ok-number_field-2.read in
    let found = c.in-Ok-digest.read in
    let error = c.in-Err-one_of.error in
    bad_number text c.args.at name.1 name.0 c.in-Ok.ensures (Err error)
    (number_len text name.1 number.1 name.0 number.0 c.in-Ok-number_field.ensures (Err error)
    (len_found text number.1 len.1 number.0 len.0 c.in-Ok-number_field-2.ensures (Err error)
    (found_behind text len.1 found.1 number.0 len.0 found.0 c.in-Ok-digest.ensures (Err error)
    (behind_unread text found.1 number.0 len.0 found.0 error c.in-Err-one_of.ensures))))

pub returns-then-index-eq0 : goal.returns-then-index-eq0
returns-then-index-eq0 c =
    let text = c.args.text.now in
    let name = c.in-Ok.read in
    let number = c.in-Ok-number_field.read in
    let len = c.in-Ok-number_field-2.read in
    let found = c.in-Ok-digest.read in
    let end = c.in-Ok-one_of.read in
    let made : BadReplica × ℕ = (record { number = number.0; len = len.0; found = found.0 }, 0x20) in
    bad_number text c.args.at name.1 name.0 c.in-Ok.ensures (Ok (made, end.1))
    (number_len text name.1 number.1 name.0 number.0 c.in-Ok-number_field.ensures (Ok (made, end.1))
    (len_found text number.1 len.1 number.0 len.0 c.in-Ok-number_field-2.ensures (Ok (made, end.1))
    (found_behind text len.1 found.1 number.0 len.0 found.0 c.in-Ok-digest.ensures (Ok (made, end.1))
    (behind_space text found.1 end.1 number.0 len.0 found.0 end.0 c.in-Ok-one_of.ensures c.if-index-eq0.true))))

pub returns : goal.returns
returns c =
    let text = c.args.text.now in
    let name = c.in-Ok.read in
    let number = c.in-Ok-number_field.read in
    let len = c.in-Ok-number_field-2.read in
    let found = c.in-Ok-digest.read in
    let end = c.in-Ok-one_of.read in
    let made : BadReplica × ℕ = (record { number = number.0; len = len.0; found = found.0 }, 0x0A) in
    bad_number text c.args.at name.1 name.0 c.in-Ok.ensures (Ok (made, end.1))
    (number_len text name.1 number.1 name.0 number.0 c.in-Ok-number_field.ensures (Ok (made, end.1))
    (len_found text number.1 len.1 number.0 len.0 c.in-Ok-number_field-2.ensures (Ok (made, end.1))
    (found_behind text len.1 found.1 number.0 len.0 found.0 c.in-Ok-digest.ensures (Ok (made, end.1))
    (behind_newline text found.1 end.1 number.0 len.0 found.0 end.0 c.in-Ok-one_of.ensures (omega (arith, c.if-index-eq0.false))))))
