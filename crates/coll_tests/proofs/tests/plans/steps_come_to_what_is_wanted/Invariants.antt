use Rattle.grid_model.specs.Applying.{IsMade}
use Rattle.coll_tests.proofs.tests.plans.steps_come_to_what_is_wanted.Given as goal

abbrev pub invariant-loop-name : goal.invariant-loop-name
invariant-loop-name g l = IsMade l.tables
