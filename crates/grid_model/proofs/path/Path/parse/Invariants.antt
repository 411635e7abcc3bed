use Rattle.std.proofs.Common.{◌+◌, ◌-◌, length}
use Rattle.grid_model.proofs.PathReading.{IsRead}
use Rattle.grid_model.proofs.path.Path.parse.Given as goal

abbrev pub invariant-loop-start : goal.invariant-loop-start
invariant-loop-start l = IsRead l.rest l.start l.names.items

abbrev pub decreases-loop-start : goal.decreases-loop-start
decreases-loop-start l = length l.rest + 1 - l.start
