use Rattle.std.proofs.Common.{Ok, Err, subst, sym}
use Rattle.grid_model.specs.declared.replies.End.TheVariants as end
use Rattle.reply_fields.specs.Fronts.{IsRead, ReadsFrom}
use Rattle.reply_reader.specs.Ends.{IsErrorEnd}
use Rattle.reply_reader.specs.Lines.{IsRest}
use Rattle.reply_reader.specs.MarkFields.{IsMark}
use Rattle.reply_reader.specs.WordFields.{IsPassed, IsWords}
use Rattle.reply_reader.specs.declared.lines.Line.TheVariants as line
use Rattle.reply_reader.proofs.Readings.{reads_image}
use Rattle.reply_reader.proofs.lines.rest_of_line.Goals as goal

pub returns-in-Ok : goal.returns-in-Ok
returns-in-Ok c =
    subst (λ k. IsRead (IsRest k) c.args.text.now c.args.at (line.Mark c.in-Ok.mark) c.in-Ok.next) (sym c.in-Mark.is)
    (reads_image line.Mark IsMark c.args.text.now c.args.at (Ok (c.in-Ok.mark, c.in-Ok.next)) c.in-Ok.ensures)

pub returns-in-Err : goal.returns-in-Err
returns-in-Err c =
    subst (λ k. ReadsFrom (IsRest k) c.args.text.now c.args.at (Err c.in-Err.error)) (sym c.in-Mark.is)
    (reads_image line.Mark IsMark c.args.text.now c.args.at (Err c.in-Err.error) c.in-Err.ensures)

pub returns-in-Ok-recovery : goal.returns-in-Ok-recovery
returns-in-Ok-recovery c =
    subst (λ k. IsRead (IsRest k) c.args.text.now c.args.at (line.Passed c.in-Ok-recovery.passed) c.in-Ok-recovery.next) (sym c.in-Passed.is)
    (reads_image line.Passed IsPassed c.args.text.now c.args.at (Ok (c.in-Ok-recovery.passed, c.in-Ok-recovery.next)) c.in-Ok-recovery.ensures)

pub returns-in-Err-recovery : goal.returns-in-Err-recovery
returns-in-Err-recovery c =
    subst (λ k. ReadsFrom (IsRest k) c.args.text.now c.args.at (Err c.in-Err-recovery.error)) (sym c.in-Passed.is)
    (reads_image line.Passed IsPassed c.args.text.now c.args.at (Err c.in-Err-recovery.error) c.in-Err-recovery.ensures)

pub returns-in-Ok-words_behind : goal.returns-in-Ok-words_behind
returns-in-Ok-words_behind c =
    subst (λ k. IsRead (IsRest k) c.args.text.now c.args.at (line.Row c.in-Ok-words_behind.words) c.in-Ok-words_behind.next) (sym c.in-Row.is)
    (reads_image line.Row IsWords c.args.text.now c.args.at (Ok (c.in-Ok-words_behind.words, c.in-Ok-words_behind.next)) c.in-Ok-words_behind.ensures)

pub returns-in-Err-words_behind : goal.returns-in-Err-words_behind
returns-in-Err-words_behind c =
    subst (λ k. ReadsFrom (IsRest k) c.args.text.now c.args.at (Err c.in-Err-words_behind.error)) (sym c.in-Row.is)
    (reads_image line.Row IsWords c.args.text.now c.args.at (Err c.in-Err-words_behind.error) c.in-Err-words_behind.ensures)

pub returns-in-Ok-words_behind-2 : goal.returns-in-Ok-words_behind-2
returns-in-Ok-words_behind-2 c =
    subst (λ k. IsRead (IsRest k) c.args.text.now c.args.at (line.End (end.Done c.in-Ok-words_behind-2.words)) c.in-Ok-words_behind-2.next) (sym c.in-Good.is)
    (reads_image (λ words. line.End (end.Done words)) IsWords c.args.text.now c.args.at (Ok (c.in-Ok-words_behind-2.words, c.in-Ok-words_behind-2.next)) c.in-Ok-words_behind-2.ensures)

pub returns-in-Err-words_behind-2 : goal.returns-in-Err-words_behind-2
returns-in-Err-words_behind-2 c =
    subst (λ k. ReadsFrom (IsRest k) c.args.text.now c.args.at (Err c.in-Err-words_behind-2.error)) (sym c.in-Good.is)
    (reads_image (λ words. line.End (end.Done words)) IsWords c.args.text.now c.args.at (Err c.in-Err-words_behind-2.error) c.in-Err-words_behind-2.ensures)

pub returns-in-Ok-error_end : goal.returns-in-Ok-error_end
returns-in-Ok-error_end c =
    subst (λ k. IsRead (IsRest k) c.args.text.now c.args.at (line.End c.in-Ok-error_end.end) c.in-Ok-error_end.next) (sym c.in-Error.is)
    (reads_image line.End IsErrorEnd c.args.text.now c.args.at (Ok (c.in-Ok-error_end.end, c.in-Ok-error_end.next)) c.in-Ok-error_end.ensures)

pub returns-in-Err-error_end : goal.returns-in-Err-error_end
returns-in-Err-error_end c =
    subst (λ k. ReadsFrom (IsRest k) c.args.text.now c.args.at (Err c.in-Err-error_end.error)) (sym c.in-Error.is)
    (reads_image line.End IsErrorEnd c.args.text.now c.args.at (Err c.in-Err-error_end.error) c.in-Err-error_end.ensures)
