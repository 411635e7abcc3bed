use Rattle.std.proofs.Common.{◌∙◌}
use Rattle.cmd_read.proofs.Counting.{promises_at}
use Rattle.cmd_read.proofs.count.promises.Goals as goal

pub returns-in-len2-up : goal.returns-in-len2-up
returns-in-len2-up c = c.has_body.ensures ∙ promises_at c.args.words.now c.verb-item.result c.in-len2-up.len_at_least c.verb-item.is
