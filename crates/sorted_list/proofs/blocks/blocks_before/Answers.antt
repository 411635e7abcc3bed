use Rattle.std.proofs.Common.{rules, of_calls}
use Rattle.std.proofs.lemmas.Fn.{always_returns_same}
use Rattle.sorted_list.specs.Blocks.{begins}
use Rattle.sorted_list.specs.Fronts.{is_before}
use Rattle.sorted_list.proofs.blocks.blocks_before.Goals as goal

pub returns-clause-cut : goal.returns-clause-cut
returns-clause-cut g c =
    c.partition_point.ensures.partitioned (λ b. begins (λ k. is_before c.args.at (g.F.Front.side c.args.front k)) b.items) (always_returns_same _ _ _ (λ a r f k. search (rules, of_calls)))
