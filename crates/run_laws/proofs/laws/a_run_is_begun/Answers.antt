use Rattle.run_laws.proofs.RunLaws.{none_yet}
use Rattle.run_laws.proofs.laws.a_run_is_begun.Goals as goal

pub returns : goal.returns
returns g d = λ found begun c begin opened in_few sweeps swept_few swept. none_yet begin opened in_few sweeps swept_few swept
