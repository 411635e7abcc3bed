use Rattle.std.proofs.Common.{◌≡◌, ◌<◌, ◌∙◌, sym, ap, subst, drop, length, List, Vec, Global, arith}
use Rattle.sorted_list.specs.Blocks.{AreBlocks}
use Rattle.sorted_list.proofs.Edits.{within_at}
use Rattle.sorted_list.proofs.Runs.{blocks_behind, run_at, run_nowhere}
use Rattle.sorted_list.proofs.run.Run.of.Goals as goal

pub split_at-requires : goal.split_at-requires
split_at-requires g c =
    omega (
      arith,
      within_at c.args.blocks.now c.place_of-start.result.block c.place_of-start.result.at c.place_of-start.ensures.within (omega (arith, c.in-Some.ensures.lookup.3.0)) c.in-Some.block.now
          c.in-Some.ensures.lookup.1,
      ap length c.as_slice.ensures.value,
    )

pub run_before-requires : goal.run_before-requires
run_before-requires g c =
    subst (λ (l : List (Vec g.row.K.Denot Global)). AreBlocks g.K.Key.order l) (sym c.split_at-in-Some.ensures.back)
    (blocks_behind g.K.Key.order c.args.blocks.now _ c.requires)

pub returns-in-Some : goal.returns-in-Some
returns-in-Some g c =
    run_at g.K.Key.order (g.F.Front.side c.args.front) c.args.blocks.now c.requires c.place_of-start.result.block c.place_of-start.result.at c.place_of-start.ensures.within _ (omega arith)
    c.in-Some.block.now c.in-Some.ensures.lookup.3.0 c.in-Some.ensures.lookup.1
    c.split_at.result.1.now (c.split_at.ensures.back ∙ ap (λ l. drop c.place_of-start.result.at l) c.as_slice.ensures.value) c.split_at-in-Some.result.1.now c.split_at-in-Some.ensures.back
    c.run_before.result c.run_before.ensures (c.place_of-start.ensures.before c.requires) (c.place_of-start.ensures.rest c.requires)

pub returns-in-None : goal.returns-in-None
returns-in-None g c =
    run_nowhere g.K.Key.order (g.F.Front.side c.args.front) c.args.blocks.now c.requires c.place_of-start.result.block c.place_of-start.result.at c.place_of-start.ensures.within
    c.in-None.ensures.lookup.3
