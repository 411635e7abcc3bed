use Rattle.cmd_read.proofs.SameWords.{word_test}
use Rattle.cmd_read.proofs.words.is_word.Goals as goal

pub returns : goal.returns
returns c = word_test c.has_bytes.result c.args.bytes.now c.args.word.now c.has_bytes.ensures
