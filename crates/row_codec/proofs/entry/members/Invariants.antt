use Rattle.std.proofs.Common.{◌≡◌, ◌-◌}
use Rattle.row_codec.specs.Reading.{many_at}
use Rattle.row_codec.proofs.Loop.{with_front}
use Rattle.row_codec.proofs.entry.members.Given as goal

abbrev pub invariant-loop : goal.invariant-loop
invariant-loop g l = with_front l.members.items (many_at g.T.Entry.read_at (l.count - l.counter) l.rest) ≡ many_at g.T.Entry.read_at l.count l.bytes
