use Rattle.reply_reader.proofs.LineReading.{line_unread, line_kind_unread, line_read}
use Rattle.reply_reader.proofs.lines.next_line.Goals as goal

pub returns-in-Err : goal.returns-in-Err
returns-in-Err c = line_unread c.args.first.now c.args.phase c.args.text.now c.args.at c.in-Err.error c.in-Err.ensures

pub returns-in-Err-next_kind : goal.returns-in-Err-next_kind
returns-in-Err-next_kind c = line_kind_unread c.args.first.now c.args.phase c.args.text.now c.args.at c.in-Ok.read.1 c.in-Ok.read.0 c.in-Err-next_kind.error c.in-Ok.ensures c.in-Err-next_kind.ensures

pub returns : goal.returns
returns c = line_read c.args.first.now c.args.phase c.args.text.now c.args.at c.in-Ok.read.1 c.in-Ok-next_kind.read.1 c.in-Ok.read.0 c.in-Ok-next_kind.read.0 c.in-Ok.ensures c.in-Ok-next_kind.ensures c.rest_of_line.result c.rest_of_line.ensures
