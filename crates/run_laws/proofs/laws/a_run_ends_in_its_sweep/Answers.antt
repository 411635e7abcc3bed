use Rattle.run_laws.proofs.RunLaws.{ends_swept}
use Rattle.run_laws.proofs.laws.a_run_ends_in_its_sweep.Goals as goal

pub returns : goal.returns
returns g d = λ found begun left end begin opened in_few sweeps swept_few stops good. ends_swept begin opened in_few sweeps swept_few stops good
