use Rattle.std.proofs.Common.{◌≡◌, take}
use Rattle.grid_journal.specs.Stands.{magic}
use Rattle.grid_journal.proofs.head.fault_in.Given as goal

abbrev pub invariant-loop-at : goal.invariant-loop-at
invariant-loop-at l = take l.at l.head ≡ take l.at magic
