use Rattle.std.proofs.Common.{◌≡◌, ◌++◌, take}
use Rattle.std.specs.List.{flat_map}
use Rattle.grid_model.specs.Replies.{passed_line}
use Rattle.cmd_reply.proofs.writing.push_passed_lines.Given as goal

abbrev pub invariant-loop-recovery : goal.invariant-loop-recovery
invariant-loop-recovery l = l.text.items ≡ l.fn.text.items ++ flat_map (passed_line l.number) (take l.recovery-index l.passed)
