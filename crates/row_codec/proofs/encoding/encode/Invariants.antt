use Rattle.std.proofs.Common.{◌≡◌, take}
use Rattle.row_codec.proofs.Spelled.{spellings}
use Rattle.row_codec.proofs.encoding.encode.Given as goal

abbrev pub invariant-loop-delta : goal.invariant-loop-delta
invariant-loop-delta l = l.out.items ≡ spellings (take l.delta-index l.deltas-2)
