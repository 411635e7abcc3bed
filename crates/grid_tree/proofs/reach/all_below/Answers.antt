use Rattle.std.proofs.Common.{ℕ, List, get_or, ap, ◌∙◌, ◌++◌, IsTrue, refl}
use Rattle.grid_model.specs.RowGrids.{grid_of}
use Rattle.grid_model.specs.Rows.{has_resource}
use Rattle.grid_tree.specs.Steps.{below}
use Rattle.grid_tree.proofs.StepLemmas.{all_at, next_named}
use Rattle.grid_tree.proofs.reach.all_below.Goals as goal

pub below-requires : goal.below-requires
below-requires c = record {
  made = c.requires.made;
  there = all_at (λ id. IsTrue (has_resource c.args.tables.now id)) c.args.level.now c.loop-id.id-index _ 0 c.loop-id-test.true refl c.requires.there;
}

pub loop-id-preserved : goal.loop-id-preserved
loop-id-preserved c =
    next_named c.args.tables.now (below (grid_of c.args.tables.now).resources) c.args.level.now c.loop-id.id-index (get_or c.args.level.now c.loop-id.id-index 0) c.loop-id.next.items
    c.in_ok-more.more.items c.extend_from_slice.new.self.items c.loop-id-test.true refl
    (c.in_ok-extend_from_slice.ensures.items ∙ ap (λ (xs : List ℕ). c.loop-id.next.items ++ xs) c.as_slice.ensures.value) c.loop-id.invariant c.in_ok-more.ensures
