use Rattle.std.proofs.Common.{◌≡◌, ◌++◌, take}
use Rattle.std.specs.List.{flat_map}
use Rattle.grid_model.specs.Replies.{bad_words}
use Rattle.cmd_reply.specs.Spaced.{after_space}
use Rattle.cmd_reply.proofs.marks.push_bad_replicas.Given as goal

abbrev pub invariant-loop-replica : goal.invariant-loop-replica
invariant-loop-replica l = l.text.items ≡ l.fn.text.items ++ flat_map after_space (flat_map bad_words (take l.replica-index l.replicas))
