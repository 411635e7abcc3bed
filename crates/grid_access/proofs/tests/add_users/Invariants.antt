use Rattle.grid_model.specs.Applying.{IsMade}
use Rattle.grid_access.proofs.tests.add_users.Given as goal

abbrev pub invariant-loop-id : goal.invariant-loop-id
invariant-loop-id l = IsMade l.tables
