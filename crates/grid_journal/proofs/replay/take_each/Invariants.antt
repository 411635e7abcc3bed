use Rattle.std.proofs.Common.{◌≡◌, length}
use Rattle.grid_journal.specs.Replaying.{TakesAll}
use Rattle.grid_journal.proofs.replay.take_each.Given as goal

abbrev pub invariant-loop-delta : goal.invariant-loop-delta
invariant-loop-delta l = record { count_is : l.count ≡ length l.yielded; taken : TakesAll l.yielded l.fn.tables l.tables }
