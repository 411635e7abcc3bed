use Rattle.plan_object.proofs.PutDeeds.{writes_put}
use Rattle.plan_object.proofs.laws.a_put_is_written.Goals as goal

pub returns : goal.returns
returns c = λ cat made user w word leaves goes digest now plan plans only body has. writes_put cat made user w word leaves goes digest now plan body has plans only
