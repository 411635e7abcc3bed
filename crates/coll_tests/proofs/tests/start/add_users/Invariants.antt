use Rattle.grid_model.specs.Applying.{IsMade}
use Rattle.coll_tests.proofs.tests.start.add_users.Given as goal

abbrev pub invariant-loop-id : goal.invariant-loop-id
invariant-loop-id l = IsMade l.tables
