use Rattle.std.proofs.Common.{◌≡◌, ◌++◌}
use Rattle.query_run.specs.Narrowing.{object_ids}
use Rattle.query_run.proofs.narrowing.object_ids.Given as goal

-- the ids so far and those of the items that are left come to those of all
abbrev pub invariant-loop-key : goal.invariant-loop-key
invariant-loop-key l = l.ids.items ++ object_ids l.key-iterator ≡ object_ids l.fn.keys
