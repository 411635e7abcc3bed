use Rattle.std.proofs.Common.{IsTrue, List, subst}
use Rattle.std.specs.List.{list_all}
use Rattle.std.proofs.lemmas.Bool.{and_parts}
use Rattle.grid_journal.specs.Journal.{can_be_kept}
use Rattle.grid_model.specs.declared.deltas.Delta.{Delta}
use Rattle.coll_tests.proofs.tests.services.make_all.Goals as goal

pub make-requires-clause-kept : goal.make-requires-clause-kept
make-requires-clause-kept c =
    let next = rw c.in-Some.is at c.next.ensures.steps in
    (and_parts _ _ (subst (λ (ds : List Delta). IsTrue (list_all can_be_kept ds)) next.0 c.loop-delta.invariant.kept)).0

pub loop-delta-preserved : goal.loop-delta-preserved
loop-delta-preserved c =
    let next = rw c.in-Some.is at c.next.ensures.steps in
    record {
      made = c.in_ok-make.ensures.made;
      spelled = c.in_ok-make.ensures.spelled;
      kept = (and_parts _ _ (subst (λ (ds : List Delta). IsTrue (list_all can_be_kept ds)) next.0 c.loop-delta.invariant.kept)).1;
    }
