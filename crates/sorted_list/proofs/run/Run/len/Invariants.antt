use Rattle.std.proofs.Common.{◌+◌, ◌≤◌, length, take}
use Rattle.sorted_list.specs.Blocks.{joined}
use Rattle.sorted_list.proofs.Counts.{IsCount}
use Rattle.sorted_list.proofs.run.Run.len.Given as goal

abbrev pub invariant-loop-block : goal.invariant-loop-block
invariant-loop-block g l = IsCount l.count (l.initial.count + length (joined (take l.block-index l.block-items)))
