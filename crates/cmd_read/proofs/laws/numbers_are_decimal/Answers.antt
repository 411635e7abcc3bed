use Rattle.cmd_read.proofs.Numbers.{number_some, number_is}
use Rattle.cmd_read.proofs.laws.numbers_are_decimal.Goals as goal

pub returns : goal.returns
returns c = λ w n. (λ e. number_is w n e, λ h. number_some w n h.1 h.0)
