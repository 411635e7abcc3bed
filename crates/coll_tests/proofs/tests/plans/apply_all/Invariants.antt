use Rattle.grid_model.specs.Applying.{IsMade}
use Rattle.coll_tests.proofs.tests.plans.apply_all.Given as goal

abbrev pub invariant-loop-delta : goal.invariant-loop-delta
invariant-loop-delta l = IsMade l.tables
