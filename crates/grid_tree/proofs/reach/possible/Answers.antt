use Rattle.std.proofs.Common.{◌≡◌, ℕ, List, [], ◌∷◌, map, sym, ap, ◌∙◌, subst, IsTrue}
use Rattle.std.specs.Prelude.{flat_map}
use Rattle.std.specs.List.{AllByRecursion}
use Rattle.grid_model.specs.Rows.{has_resource}
use Rattle.grid_model.specs.RowGrids.{grid_of, resource_name}
use Rattle.grid_tree.specs.Steps.{below}
use Rattle.grid_tree.proofs.Named.{named-as}
use Rattle.grid_tree.proofs.StepLemmas.{left, no_step, one_step}
use Rattle.grid_tree.proofs.reach.possible.Goals as goal

pub loop-step-init : goal.loop-step-init
loop-step-init c = record {
  there = subst (λ (ids : List ℕ). AllByRecursion (λ id. IsTrue (has_resource c.args.tables.now id)) ids) (sym c.in_ok-level.ensures.items) (c.requires.there, tt);
  same = ap (left c.args.tables.now c.requires.made _) c.in_ok-level.ensures.items ∙ no_step c.args.tables.now c.requires.made c.count-step-end.result c.args.resource c.count-step-end.ensures;
}

pub loop-step-preserved : goal.loop-step-preserved
loop-step-preserved c =
    let t = c.args.tables.now in
    let next = named-as t c.in_ok-level-2.level.items _ _ (ap (λ (xs : List ℕ). flat_map (below (grid_of t).resources) (map (resource_name t) xs)) c.as_slice.ensures.value) c.in_ok-level-2.ensures in
    record {
      there = next.there;
      same = one_step t c.requires.made c.count-step-end.result c.loop-step._step c.loop-step.level.items c.in_ok-level-2.level.items c.loop-step-test.true next ∙ c.loop-step.invariant.same;
    }
