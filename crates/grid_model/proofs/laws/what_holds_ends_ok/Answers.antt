use Rattle.grid_model.proofs.laws.what_holds_ends_ok.Goals as goal
use Rattle.grid_model.proofs.CleanMarks.{ok_where_holds}

pub returns : goal.returns
returns c = ok_where_holds
