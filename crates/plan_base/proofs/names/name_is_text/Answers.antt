use Rattle.std.proofs.Common.{arith}
use Rattle.plan_base.proofs.NameTexts.{name_fits}
use Rattle.plan_base.proofs.names.name_is_text.Goals as goal

pub returns : goal.returns
returns c = name_fits c.args.name.now (λ i. omega (arith, c.type_inv.name i)) c.requires
