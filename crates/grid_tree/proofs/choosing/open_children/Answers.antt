use Rattle.std.proofs.Common.{ℕ, List, Vec, Global, IsTrue, refl, sym, ap, ◌∙◌, subst}
use Rattle.std.specs.List.{AllByRecursion}
use Rattle.grid_model.specs.Rows.{has_resource}
use Rattle.grid_tree.specs.Names.{AreNamed}
use Rattle.grid_tree.proofs.StepLemmas.{all_at}
use Rattle.grid_tree.proofs.SpotLemmas.{kid_open, kid_shut, open_of}
use Rattle.grid_tree.proofs.choosing.open_children.Goals as goal
use Rattle.grid_tree.proofs.choosing.open_children.Goals.{then-branch+in_ok-push, else-branch}

pub loop-kid-preserved : goal.loop-kid-preserved
loop-kid-preserved c = elim c.if-branch.branch [
  | then-branch+in_ok-push w ↦
      kid_open c.args.tables.now c.deref-kid-items.result.now c.loop-kid.kid-index _ c.loop-kid-test.true refl c.loop-kid.open.items c.if-branch.open.items
      (all_at (λ id. IsTrue (has_resource c.args.tables.now id)) c.deref-kid-items.result.now c.loop-kid.kid-index _ 0 c.loop-kid-test.true refl
      (subst (λ (ks : List ℕ). AllByRecursion (λ id. IsTrue (has_resource c.args.tables.now id)) ks) (sym c.deref-kid-items.ensures.value) c.in_ok-kids.ensures.there))
      (sym c.in_ok-has_targets.ensures ∙ w.if-branch.true) (ap (λ (v : Vec ℕ Global). v.items) w.open-is ∙ w.in_ok-push.ensures.items) c.loop-kid.invariant
  | else-branch w ↦
      kid_shut c.args.tables.now c.deref-kid-items.result.now c.loop-kid.kid-index _ c.loop-kid-test.true refl c.loop-kid.open.items c.if-branch.open.items
      (sym c.in_ok-has_targets.ensures ∙ w.if-branch.false) (ap (λ (v : Vec ℕ Global). v.items) w.open-is) c.loop-kid.invariant
]
