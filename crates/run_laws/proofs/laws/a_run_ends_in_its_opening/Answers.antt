use Rattle.run_laws.proofs.RunLaws.{ends_before}
use Rattle.run_laws.proofs.laws.a_run_ends_in_its_opening.Goals as goal

pub returns : goal.returns
returns g d = λ found end begin opens in_few stops good. ends_before begin opens in_few stops good
