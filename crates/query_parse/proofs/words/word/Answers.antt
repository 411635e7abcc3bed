use Rattle.query_parse.specs.Seen.{meaning}
use Rattle.query_parse.proofs.FrontLemmas.{word_at}
use Rattle.query_parse.proofs.words.word.Goals as goal

pub returns : goal.returns
returns c = word_at c.args.text.now c.word_len-len.result (meaning c.kind_of.result) c.word_len-len.ensures.within c.requires c.word_len-len.ensures.word c.word_len-len.ensures.ends c.kind_of.ensures
