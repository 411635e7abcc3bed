use Rattle.std.proofs.Common.{Ok, Err}
use Rattle.reply_reader.proofs.FieldReading.{reads_field}
use Rattle.reply_reader.proofs.fields.number_field.Goals as goal

pub returns-in-Ok : goal.returns-in-Ok
returns-in-Ok c = reads_field c.args.most c.args.end c.args.text.now c.args.at (Ok ((c.in-Ok.value, _), c.in-Ok.next)) c.in-Ok.ensures

pub returns-in-Err : goal.returns-in-Err
returns-in-Err c = reads_field c.args.most c.args.end c.args.text.now c.args.at (Err c.in-Err.error) c.in-Err.ensures
