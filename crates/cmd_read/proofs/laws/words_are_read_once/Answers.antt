use Rattle.cmd_read.proofs.Once.{Reads-once}
use Rattle.cmd_read.proofs.laws.words_are_read_once.Goals as goal

pub returns : goal.returns
returns c = Reads-once
