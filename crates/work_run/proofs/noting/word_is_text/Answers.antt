use Rattle.std.proofs.Common.{arith}
use Rattle.plan_meta.proofs.WordTexts.{word_fits}
use Rattle.work_run.proofs.noting.word_is_text.Goals as goal

pub returns : goal.returns
returns c = λ word. word_fits c.args.word.now (λ i. omega (arith, c.type_inv.word i)) c.is_size.ensures word
