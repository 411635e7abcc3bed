use Rattle.std.proofs.Common.{refl}
use Rattle.reply_reader.proofs.LineReading.{kind_unread, kind_read}
use Rattle.reply_reader.proofs.lines.next_kind.Goals as goal

pub returns-in-Ok : goal.returns-in-Ok
returns-in-Ok c = kind_read _ _ _ c.skipped-first.result c.args.phase c.args.text.now c.args.at c.in-Ok.next c.in-Ok.index c.in-Ok.ensures refl refl c.skipped-first.ensures

pub returns-in-Err : goal.returns-in-Err
returns-in-Err c = kind_unread _ _ _ c.skipped-first.result c.args.phase c.args.text.now c.args.at c.in-Err.error c.in-Err.ensures refl refl c.skipped-first.ensures
