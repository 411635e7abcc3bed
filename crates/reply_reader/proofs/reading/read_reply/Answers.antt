use Rattle.std.proofs.Common.{arith}
use Rattle.reply_reader.proofs.Replies.{number_front, number_refused, lines_refused, end_refused, all_spelled, SpellsReply-unique}
use Rattle.reply_reader.proofs.reading.read_reply.Goals as goal

pub returns-in-Err-clause-refused : goal.returns-in-Err-clause-refused
returns-in-Err-clause-refused c place is = number_refused c.args.text.now c.in-Err.error place c.in-Err.ensures is

pub reply_to-requires : goal.reply_to-requires
reply_to-requires c = number_front c.args.text.now c.in-Ok.read.0 c.in-Ok.read.1 c.in-Ok.ensures

pub returns-in-Err-reply_to-clause-refused : goal.returns-in-Err-reply_to-clause-refused
returns-in-Err-reply_to-clause-refused c place is = lines_refused c.args.text.now c.in-Ok.read.0 c.in-Ok.read.1 c.in-Err-reply_to.error place (omega (arith, c.in-Ok.ensures.front.spells.most_is)) c.in-Ok.ensures c.in-Err-reply_to.ensures is

pub returns-then-end-text-clause-refused : goal.returns-then-end-text-clause-refused
returns-then-end-text-clause-refused c place is = end_refused c.args.text.now c.in-Ok.read.0.0 c.in-Ok-reply_to.read.0 c.in-Ok-reply_to.read.1 place c.in-Ok-reply_to.ensures c.if-end-text.true is

pub returns-clause-spelled : goal.returns-clause-spelled
returns-clause-spelled c = all_spelled c.args.text.now c.in-Ok.read.0.0 c.in-Ok-reply_to.read.0 c.in-Ok-reply_to.read.1 c.in-Ok-reply_to.ensures c.if-end-text.false

pub returns-clause-only : goal.returns-clause-only
returns-clause-only c other p = SpellsReply-unique c.args.text.now other (c.in-Ok.read.0.0, c.in-Ok-reply_to.read.0) p (all_spelled c.args.text.now c.in-Ok.read.0.0 c.in-Ok-reply_to.read.0 c.in-Ok-reply_to.read.1 c.in-Ok-reply_to.ensures c.if-end-text.false)
