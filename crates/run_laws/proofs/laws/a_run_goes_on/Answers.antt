use Rattle.run_laws.proofs.RunLaws.{one_more}
use Rattle.run_laws.proofs.laws.a_run_goes_on.Goals as goal

pub returns : goal.returns
returns g d = λ found c after at end asked a request begin so goes noted means more step few whole. one_more begin so goes noted means more step few whole
