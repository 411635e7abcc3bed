use Rattle.std.proofs.Common.{Ok, Err}
use Rattle.reply_fields.proofs.ListReading.{either_end}
use Rattle.reply_reader.specs.Failures.{most_u64}
use Rattle.reply_reader.specs.Fields.{IsField}
use Rattle.reply_reader.proofs.Readings.{first_unread}
use Rattle.reply_reader.proofs.MarkReading.{Now, begins_now, ran_now, now_unread, now_bads}
use Rattle.reply_reader.proofs.mark_fields.ran.Goals as goal
use Rattle.grid_model.specs.declared.marks.Mark.TheVariants as mark

pub returns-in-Err : goal.returns-in-Err
returns-in-Err c = first_unread (IsField most_u64 0x20) Now begins_now c.args.text.now c.args.at c.in-Err.error c.in-Err.ensures

pub returns-in-Err-number : goal.returns-in-Err-number
returns-in-Err-number c =
    let word = c.in-Ok.read in
    ran_now c.args.text.now c.args.at word.1 word.0 c.in-Ok.ensures (Err c.in-Err-number.error) (now_unread c.args.text.now word.1 word.0 c.in-Err-number.error c.in-Err-number.ensures)

pub bad_list-requires-clause-before : goal.bad_list-requires-clause-before
bad_list-requires-clause-before c = either_end c.in-Ok-number.read.0.1 c.in-Ok-number.ensures.front.spells.ends_is

pub returns-in-Ok-bad_list : goal.returns-in-Ok-bad_list
returns-in-Ok-bad_list c =
    let word = c.in-Ok.read in
    let now = c.in-Ok-number.read in
    ran_now c.args.text.now c.args.at word.1 word.0 c.in-Ok.ensures (Ok (mark.Ran word.0 now.0.0 c.in-Ok-bad_list.bad, c.in-Ok-bad_list.last))
    (now_bads c.args.text.now word.1 now.1 word.0 now.0 c.in-Ok-number.ensures (Ok (c.in-Ok-bad_list.bad, c.in-Ok-bad_list.last)) c.in-Ok-bad_list.ensures)

pub returns-in-Err-bad_list : goal.returns-in-Err-bad_list
returns-in-Err-bad_list c =
    let word = c.in-Ok.read in
    let now = c.in-Ok-number.read in
    ran_now c.args.text.now c.args.at word.1 word.0 c.in-Ok.ensures (Err c.in-Err-bad_list.error)
    (now_bads c.args.text.now word.1 now.1 word.0 now.0 c.in-Ok-number.ensures (Err c.in-Err-bad_list.error) c.in-Err-bad_list.ensures)
