use Rattle.std.proofs.Common.{arith}
use Rattle.reply_reader.proofs.WordFieldReading.{words_unread, none_then, list_then}
use Rattle.reply_reader.proofs.word_fields.words_behind.Goals as goal

pub returns-in-Err : goal.returns-in-Err
returns-in-Err c = words_unread c.args.text.now c.args.at c.in-Err.error c.in-Err.ensures

pub returns-then-index-eq0 : goal.returns-then-index-eq0
returns-then-index-eq0 c = none_then c.args.text.now c.args.at c.in-Ok.read.1 c.in-Ok.read.0 c.from_vec.result c.in-Ok.ensures c.if-index-eq0.true (cc)

pub returns : goal.returns
returns c = list_then c.args.text.now c.args.at c.in-Ok.read.1 c.in-Ok.read.0 c.in-Ok.ensures (omega (arith, c.if-index-eq0.false)) c.words.result c.words.ensures
