use Rattle.run_laws.proofs.RunLaws.{ends_quiet}
use Rattle.run_laws.proofs.laws.a_run_ends_early.Goals as goal

pub returns : goal.returns
returns g d = λ found c at asked end begin so goes quiet first stops good. ends_quiet begin so goes quiet first stops good
