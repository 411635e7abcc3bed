use Rattle.chain_laws.proofs.Halting.{stops_halt}
use Rattle.chain_laws.proofs.stopping.stops_halt.Goals as goal

pub returns : goal.returns
returns c = stops_halt
