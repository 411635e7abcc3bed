use Rattle.reply_fields.specs.Counted.{bytes_read}
use Rattle.reply_fields.proofs.CountedReading.{data_part_unread, data_part_read}
use Rattle.reply_fields.proofs.counted.data_part.Goals as goal

pub returns-in-Err : goal.returns-in-Err
returns-in-Err c = data_part_unread c.args.text.now c.args.at c.in-Err.error c.in-Err.ensures

pub returns : goal.returns
returns c = data_part_read c.args.text.now c.args.at c.in-Ok.read.1 c.in-Ok.read.0 (bytes_read c.args.text.now c.counted.result) c.in-Ok.ensures c.counted.ensures
