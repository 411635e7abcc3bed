-- The reading stays within the buffer.
use Rattle.std.proofs.Common.{◌≡◌, ◌≤◌, length}
use Rattle.grid_file.proofs.reading.fill.Given as goal

abbrev pub invariant-loop : goal.invariant-loop
invariant-loop l = (length l.buf ≡ length l.initial.buf) × (l.done ≤ length l.buf)
