use Rattle.grid_journal.proofs.KeptDeltas.{fit_of}
use Rattle.grid_journal.proofs.changes.record_of.Goals as goal

pub encode-requires : goal.encode-requires
encode-requires c = fit_of c.args.first.now c.requires.first

pub encode-requires-2 : goal.encode-requires-2
encode-requires-2 c = fit_of c.args.then.now c.requires.then
