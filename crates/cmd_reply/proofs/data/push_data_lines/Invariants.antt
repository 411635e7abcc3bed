use Rattle.std.proofs.Common.{◌≡◌, ◌++◌, length}
use Rattle.grid_model.specs.DataLines.{data_lines}
use Rattle.cmd_reply.proofs.data.push_data_lines.Given as goal

abbrev pub invariant-loop-rest : goal.invariant-loop-rest
invariant-loop-rest l = l.text.items ++ data_lines l.number l.rest ≡ l.fn.text.items ++ data_lines l.number l.bytes

abbrev pub decreases-loop-rest : goal.decreases-loop-rest
decreases-loop-rest l = length l.rest
