use Rattle.std.proofs.Common.{◌≡◌, ◌++◌, IsTrue, drop}
use Rattle.std.specs.List.{AllByRecursion, list_all}
use Rattle.grid_model.specs.Rows.{has_resource}
use Rattle.grid_journal.specs.Journal.{can_be_kept}
use Rattle.plan_tree.specs.NewChildren.{numbered_anew}
use Rattle.plan_tree.proofs.children.numbered_anew.Given as goal

-- what was added so far and what the other children give come to what all give
abbrev pub invariant-loop-kid : goal.invariant-loop-kid
invariant-loop-kid l = record {
  changes : l.deltas.items ++ numbered_anew l.tables l.place (drop l.kid-index l.kids) ≡ numbered_anew l.tables 0 l.kids;
  place : l.place ≡ l.kid-index;
  later : AllByRecursion (λ k. IsTrue (has_resource l.tables k.id)) (drop l.kid-index l.kids);
  spelled : IsTrue (list_all can_be_kept l.deltas.items);
}
