use Rattle.std.proofs.Common.{arith}
use Rattle.cmd_run.proofs.PrintedBytes.{fits_rules}
use Rattle.cmd_run.proofs.ruling.lines_are_kept.Goals as goal

pub returns : goal.returns
returns c = λ lines. fits_rules c.args.text.now (λ i. omega (arith, c.type_inv.text i)) c.is_size.ensures lines
