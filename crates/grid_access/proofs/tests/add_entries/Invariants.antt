use Rattle.grid_model.specs.Applying.{IsMade}
use Rattle.grid_access.proofs.tests.add_entries.Given as goal

abbrev pub invariant-loop-kind : goal.invariant-loop-kind
invariant-loop-kind l = IsMade l.tables
