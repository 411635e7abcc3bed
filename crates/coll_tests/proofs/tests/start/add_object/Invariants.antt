use Rattle.grid_model.specs.Applying.{IsMade}
use Rattle.coll_tests.proofs.tests.start.add_object.Given as goal

abbrev pub invariant-loop-number : goal.invariant-loop-number
invariant-loop-number l = IsMade l.tables
