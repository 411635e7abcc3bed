use Rattle.chain_core.proofs.Coding.{named_test}
use Rattle.chain_core.proofs.kinds.is_named.Goals as goal

pub returns : goal.returns
returns c = named_test c.has_bytes.result c.args.text.now c.args.bytes.now c.has_bytes.ensures
