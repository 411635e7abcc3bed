use Rattle.std.proofs.Common.{◌≡◌, ◌++◌, take}
use Rattle.std.specs.List.{flat_map}
use Rattle.grid_model.specs.Replies.{mark_line}
use Rattle.cmd_reply.proofs.report.push_mark_lines.Given as goal

abbrev pub invariant-loop-mark : goal.invariant-loop-mark
invariant-loop-mark l = l.text.items ≡ l.fn.text.items ++ flat_map (mark_line l.number) (take l.mark-index l.marks)
