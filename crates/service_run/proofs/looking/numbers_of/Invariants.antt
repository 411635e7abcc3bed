use Rattle.std.proofs.Common.{◌≡◌, map, take}
use Rattle.grid_model.specs.declared.marks.BadReplica.{BadReplica}
use Rattle.service_run.proofs.looking.numbers_of.Given as goal

abbrev pub invariant-loop-replica : goal.invariant-loop-replica
invariant-loop-replica l = l.numbers.items ≡ map (λ (b : BadReplica). b.number) (take l.replica-index l.replica-items)
