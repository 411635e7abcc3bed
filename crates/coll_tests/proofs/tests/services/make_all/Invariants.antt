use Rattle.std.proofs.Common.{IsTrue}
use Rattle.std.specs.List.{list_all}
use Rattle.std.specs.Vec.Iter.{into_iter_items}
use Rattle.grid_journal.specs.Journal.{HasSpelledRows, can_be_kept}
use Rattle.grid_model.specs.Applying.{IsMade}
use Rattle.coll_tests.proofs.tests.services.make_all.Given as goal

abbrev pub invariant-loop-delta : goal.invariant-loop-delta
invariant-loop-delta l = record {
  made : IsMade l.tables;
  spelled : HasSpelledRows l.tables;
  kept : IsTrue (list_all can_be_kept (into_iter_items l.delta-iterator));
}
