use Rattle.std.proofs.Common.{Ok, Err}
use Rattle.reply_reader.proofs.FieldReading.{digest_unread, digest_then}
use Rattle.reply_reader.proofs.fields.digest_field.Goals as goal

pub returns-in-Err : goal.returns-in-Err
returns-in-Err c = digest_unread c.args.end c.args.text.now c.args.at c.in-Err.error c.in-Err.ensures

pub returns-in-Ok-one_of : goal.returns-in-Ok-one_of
returns-in-Ok-one_of c = digest_then c.args.end c.args.text.now c.args.at c.in-Ok.read.1 c.in-Ok.read.0 c.in-Ok.ensures (Ok (_, c.in-Ok-one_of.last)) c.in-Ok-one_of.ensures

pub returns-in-Err-one_of : goal.returns-in-Err-one_of
returns-in-Err-one_of c = digest_then c.args.end c.args.text.now c.args.at c.in-Ok.read.1 c.in-Ok.read.0 c.in-Ok.ensures (Err c.in-Err-one_of.error) c.in-Err-one_of.ensures
