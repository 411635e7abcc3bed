use Rattle.std.proofs.Common.{Ok, Err}
use Rattle.reply_reader.proofs.CauseReading.{reads_what}
use Rattle.reply_reader.proofs.causes.what.Goals as goal

pub returns-in-Ok : goal.returns-in-Ok
returns-in-Ok c = reads_what c.args.text.now c.args.at (Ok (c.in-Ok.index, c.in-Ok.next)) c.in-Ok.ensures

pub returns-in-Err : goal.returns-in-Err
returns-in-Err c = reads_what c.args.text.now c.args.at (Err c.in-Err.error) c.in-Err.ensures
