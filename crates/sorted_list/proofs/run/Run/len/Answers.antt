use Rattle.std.proofs.Common.{arith}
use Rattle.sorted_list.proofs.Counts.{joined_more}
use Rattle.sorted_list.proofs.run.Run.len.Goals as goal

pub loop-block-preserved : goal.loop-block-preserved
loop-block-preserved g c =
    let more = joined_more c.self.inside.blocks.now c.loop-block.block-index c.block-item.result (omega arith) c.block-item.is in
    record {
      low = omega (arith, more, c.saturating_add-count-in-loop-block.ensures, c.len.ensures, c.block-item.result.ok.0, c.loop-block.invariant.low);
      exact = λ h. omega (arith, more, c.saturating_add-count-in-loop-block.ensures, c.len.ensures, c.block-item.result.ok.0, c.loop-block.invariant.exact);
    }
