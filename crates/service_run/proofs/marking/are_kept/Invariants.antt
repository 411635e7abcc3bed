use Rattle.std.proofs.Common.{IsTrue, take}
use Rattle.std.specs.List.{list_all}
use Rattle.grid_model.specs.Deltas.{all_fit, bad_replica as bad_parts}
use Rattle.grid_model.specs.declared.marks.BadReplica.{BadReplica}
use Rattle.service_run.proofs.marking.are_kept.Given as goal

-- those so far
abbrev pub invariant-loop-replica : goal.invariant-loop-replica
invariant-loop-replica l = IsTrue (list_all (λ (b : BadReplica). all_fit (bad_parts b)) (take l.replica-index l.bad))
