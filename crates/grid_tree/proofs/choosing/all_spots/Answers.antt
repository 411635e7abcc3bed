use Rattle.std.proofs.Common.{ℕ, List, get_or, ap, ◌∙◌, ◌++◌, refl}
use Rattle.grid_model.specs.RowGrids.{grid_of}
use Rattle.grid_tree.specs.Steps.{spots}
use Rattle.grid_tree.specs.declared.choosing.Spot.{Spot}
use Rattle.grid_tree.proofs.SpotLemmas.{next_spots}
use Rattle.grid_tree.proofs.choosing.all_spots.Goals as goal

pub loop-spot-preserved : goal.loop-spot-preserved
loop-spot-preserved c =
    next_spots c.args.tables.now (spots (grid_of c.args.tables.now).resources) c.args.level.now c.loop-spot.spot-index (get_or c.args.level.now c.loop-spot.spot-index (record { id = 0; word = 0 })) (record { id = 0; word = 0 })
    c.loop-spot.next.items
    c.in_ok-more.more.items c.extend_from_slice.new.self.items c.loop-spot-test.true refl
    (c.in_ok-extend_from_slice.ensures.items ∙ ap (λ (xs : List Spot). c.loop-spot.next.items ++ xs) c.as_slice.ensures.value) c.loop-spot.invariant c.in_ok-more.ensures
