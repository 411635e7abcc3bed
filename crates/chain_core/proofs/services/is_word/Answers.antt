use Rattle.chain_core.proofs.Serving.{word_test}
use Rattle.chain_core.proofs.services.is_word.Goals as goal

pub returns : goal.returns
returns c = word_test c.has_bytes.result c.args.bytes.now c.args.text.now c.has_bytes.ensures
