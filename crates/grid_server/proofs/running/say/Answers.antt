use Rattle.std.proofs.Common.{inr, refl}
use Rattle.grid_server.proofs.running.say.Goals as goal

pub returns-in-Err-clause-says : goal.returns-in-Err-clause-says
returns-in-Err-clause-says g c = inr (refl, c.put.ensures.acts.holds)
