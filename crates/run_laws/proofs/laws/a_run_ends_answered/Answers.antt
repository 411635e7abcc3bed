use Rattle.run_laws.proofs.RunLaws.{ends_well}
use Rattle.run_laws.proofs.laws.a_run_ends_answered.Goals as goal

pub returns : goal.returns
returns g d = λ found c at asked end begin so first reads good. ends_well begin so first reads good
