use Rattle.std.proofs.Common.{◌≡◌, ℕ, ◌-◌, List, [], ◌∷◌, map, sym, ap, ◌∙◌, subst, arith, IsTrue}
use Rattle.std.specs.Prelude.{flat_map}
use Rattle.std.specs.List.{AllByRecursion}
use Rattle.std.proofs.lemmas.Result.{IfOk-weaker}
use Rattle.grid_model.specs.Rows.{has_resource}
use Rattle.grid_model.specs.RowGrids.{grid_of, resource_name}
use Rattle.grid_model.specs.Trees.{possible_from}
use Rattle.grid_tree.specs.Spots.{spot_name}
use Rattle.grid_tree.specs.Steps.{spots}
use Rattle.grid_tree.specs.declared.choosing.Spot.{Spot}
use Rattle.grid_tree.proofs.Named.{named-as}
use Rattle.grid_tree.proofs.StepLemmas.{ids-as}
use Rattle.grid_tree.proofs.SpotLemmas.{ids_there, last_step, left, no_step, one_step, spots-named}
use Rattle.grid_tree.proofs.choosing.targets.Goals as goal

pub loop-step-init : goal.loop-step-init
loop-step-init c = record {
  there = subst (λ (level : List Spot). AllByRecursion (λ s. IsTrue (has_resource c.args.tables.now s.id)) level) (sym c.in_ok-level.ensures.items) (c.requires.there, tt);
  same = ap (left c.args.tables.now c.requires.made _) c.in_ok-level.ensures.items ∙ no_step c.args.tables.now c.requires.made c.count-step-end.result _ c.count-step-end.ensures;
}

pub loop-step-preserved : goal.loop-step-preserved
loop-step-preserved c =
    let t = c.args.tables.now in
    let next = spots-named t c.in_ok-level-2.level.items _ _ (ap (λ (xs : List Spot). flat_map (spots (grid_of t).resources) (map (spot_name t) xs)) c.as_slice.ensures.value) c.in_ok-level-2.ensures in
    record {
      there = next.there;
      same = one_step t c.requires.made c.count-step-end.result c.loop-step._step c.loop-step.level.items c.in_ok-level-2.level.items c.loop-step-test.true next ∙ c.loop-step.invariant.same;
    }

pub open_leaves-requires-clause-there : goal.open_leaves-requires-clause-there
open_leaves-requires-clause-there c =
    subst (λ (ids : List ℕ). AllByRecursion (λ id. IsTrue (has_resource c.args.tables.now id)) ids)
    (sym (c.as_slice-3.ensures.value ∙ c.in_ok-ids.ensures ∙ ap (map (λ (s : Spot). s.id)) c.as_slice-2.ensures.value)) (ids_there c.args.tables.now c.loop-step.level.items c.loop-step.invariant.there)

pub returns-clause-names : goal.returns-clause-names
returns-clause-names c =
    let t = c.args.tables.now in
    let done : c.count-step-end.result - c.loop-step._step ≡ 0 = omega arith in
    ids-as t c.in_ok-open_leaves.field-0.items c.from_vec.result _ c.from_vec.ensures (named-as t c.in_ok-open_leaves.field-0.items _ _
    (ap (λ (xs : List ℕ). flat_map (possible_from 1 (grid_of t).resources) (map (resource_name t) xs)) (c.as_slice-3.ensures.value ∙ c.in_ok-ids.ensures ∙ ap (map (λ (s : Spot). s.id)) c.as_slice-2.ensures.value)
    ∙ sym (last_step t c.requires.made c.count-step-end.result c.loop-step._step c.loop-step.level.items done) ∙ c.loop-step.invariant.same) c.in_ok-open_leaves.ensures.names)
