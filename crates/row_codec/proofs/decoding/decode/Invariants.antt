use Rattle.std.proofs.Common.{◌≡◌, ◌++◌, length}
use Rattle.row_codec.proofs.Spelled.{AllFit, spellings}
use Rattle.row_codec.proofs.decoding.decode.Given as goal

abbrev pub invariant-loop-rest : goal.invariant-loop-rest
invariant-loop-rest l = (AllFit l.deltas.items) × (l.bytes ≡ spellings l.deltas.items ++ l.rest)

abbrev pub decreases-loop-rest : goal.decreases-loop-rest
decreases-loop-rest l = length l.rest
