use Rattle.std.proofs.Common.{◌==◌, List, Vec, Global, get_or, refl, sym, ap, ◌∙◌}
use Rattle.std.specs.List.{list_any}
use Rattle.plan_object.specs.declared.placing.Target.{Target}
use Rattle.plan_object.proofs.Targets.{target_new, target_there}
use Rattle.plan_object.proofs.placing.targets_of.Goals as goal
use Rattle.plan_object.proofs.placing.targets_of.Goals.{then-not-has_leaf+in_ok-push, else-not-has_leaf}

pub loop-leaf-preserved : goal.loop-leaf-preserved
loop-leaf-preserved c =
    let leaf = get_or c.args.leaves.now c.loop-leaf.leaf-index 0 in
    let any = λ (ts : List Target). list_any (λ (t : Target). t.leaf == leaf) ts in
    elim c.if-not-has_leaf.branch [
      | then-not-has_leaf+in_ok-push w ↦
          target_new c.args.tables.now c.args.leaves.now c.loop-leaf.leaf-index leaf c.loop-leaf-test.true refl c.loop-leaf.targets.items c.loop-leaf.invariant c.if-not-has_leaf.targets.items
          w.target_of.result (ap (λ (v : Vec Target Global). v.items) w.targets-is ∙ w.in_ok-push.ensures.items) w.target_of.ensures.leaf w.target_of.ensures.slot
          (ap any (sym c.as_slice.ensures.value) ∙ sym w.if-not-has_leaf.ensures)
      | else-not-has_leaf w ↦
          target_there c.args.tables.now c.args.leaves.now c.loop-leaf.leaf-index leaf c.loop-leaf-test.true refl c.loop-leaf.targets.items c.loop-leaf.invariant c.if-not-has_leaf.targets.items
          (ap (λ (v : Vec Target Global). v.items) w.targets-is) (ap any (sym c.as_slice.ensures.value) ∙ sym w.if-not-has_leaf.ensures)
    ]
