use Rattle.std.proofs.Common.{arith}
use Rattle.grid_journal.proofs.StartLemmas.{name_fits}
use Rattle.grid_journal.proofs.starting.copy_of_name.Goals as goal

pub returns-clause-fits : goal.returns-clause-fits
returns-clause-fits c = name_fits c.args.name.now c.requires (λ i. omega (arith, c.type_inv.name i))
