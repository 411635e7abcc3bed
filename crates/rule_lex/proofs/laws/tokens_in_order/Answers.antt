use Rattle.std.proofs.Common.{refl, arith}
use Rattle.rule_lex.proofs.SpanLemmas.{in_order}
use Rattle.rule_lex.proofs.laws.tokens_in_order.Goals as goal

pub returns : goal.returns
returns c = λ text tokens spelled. in_order text 0 spelled refl (omega arith)
