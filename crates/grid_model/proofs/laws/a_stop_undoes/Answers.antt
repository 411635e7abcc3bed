use Rattle.grid_model.proofs.laws.a_stop_undoes.Goals as goal
use Rattle.grid_model.proofs.StoppingCommands.{stop_undoes}

pub returns : goal.returns
returns c = stop_undoes
