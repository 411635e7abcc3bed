use Rattle.std.proofs.Common.{ℕ, Vec, Global, refl, sym, ap, ◌∙◌}
use Rattle.grid_tree.proofs.StepLemmas.{Leaves, with_leaf, without_leaf}
use Rattle.grid_tree.proofs.reach.open_leaves.Goals as goal
use Rattle.grid_tree.proofs.reach.open_leaves.Goals.{then-is_open+in_ok-push, else-is_open}

pub loop-id-preserved : goal.loop-id-preserved
loop-id-preserved c =
    let was : Leaves c.args.tables.now c.requires.made c.args.level.now c.requires.there c.loop-id.id-index _ c.loop-id-test.true refl c.loop-id.id-index c.loop-id.leaves.items = record {
      named = c.loop-id.invariant.named;
      all = c.loop-id.invariant.all;
    } in
    let now : Leaves c.args.tables.now c.requires.made c.args.level.now c.requires.there c.loop-id.id-index _ c.loop-id-test.true refl _ c.if-is_open.leaves.items = elim c.if-is_open.branch [
      | then-is_open+in_ok-push w ↦
          with_leaf c.args.tables.now c.requires.made c.args.level.now c.requires.there c.loop-id.id-index _ c.loop-id-test.true refl c.loop-id.leaves.items c.if-is_open.leaves.items (sym w.if-is_open.ensures) (ap (λ (v : Vec ℕ Global). v.items) w.leaves-is ∙ w.in_ok-push.ensures.items) was
      | else-is_open w ↦
          without_leaf c.args.tables.now c.requires.made c.args.level.now c.requires.there c.loop-id.id-index _ c.loop-id-test.true refl c.loop-id.leaves.items c.if-is_open.leaves.items (sym w.if-is_open.ensures) (ap (λ (v : Vec ℕ Global). v.items) w.leaves-is) was
    ] in
    record { named = now.named; all = now.all }
