use Rattle.std.proofs.Common.{Err}
use Rattle.reply_fields.specs.Counted.{IsDataPart}
use Rattle.reply_reader.specs.declared.lines.Line.TheVariants as line
use Rattle.reply_reader.proofs.Readings.{reads_image}
use Rattle.reply_reader.proofs.lines.data.Goals as goal

pub returns-in-Err : goal.returns-in-Err
returns-in-Err c = reads_image line.Data IsDataPart c.args.text.now c.args.at (Err c.in-Err.error) c.in-Err.ensures
