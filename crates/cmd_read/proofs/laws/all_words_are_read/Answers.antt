use Rattle.cmd_read.proofs.Each.{Reads-each}
use Rattle.cmd_read.proofs.laws.all_words_are_read.Goals as goal

pub returns : goal.returns
returns c = Reads-each
