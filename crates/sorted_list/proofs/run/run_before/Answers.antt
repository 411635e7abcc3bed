use Rattle.std.proofs.Common.{◌<◌, true, arith}
use Rattle.sorted_list.specs.Fronts.{is_before}
use Rattle.sorted_list.proofs.Cuts.{falls_from}
use Rattle.sorted_list.proofs.Runs.{run_none, run_some}
use Rattle.sorted_list.proofs.run.run_before.Goals as goal

pub returns-then-count-eq0 : goal.returns-then-count-eq0
returns-then-count-eq0 g c = λ sorted.
    run_none (λ (k : g.row.K.Denot). is_before true (g.F.Front.side c.args.front k)) g.K.Key.order
    (falls_from g.K.Key.order (g.F.Front.side c.args.front) (g.met.F.Front.falls c.args.front) true) c.args.keys.now c.args.blocks.now c.requires sorted
    c.blocks_before-count.result c.blocks_before-count.ensures.within c.blocks_before-count.ensures.cut c.if-count-eq0.true
    c.keys_before.result c.keys_before.ensures.within c.keys_before.ensures.cut c.split_at.result.0.now c.split_at.ensures.front

pub returns : goal.returns
returns g c = λ sorted.
    run_some (λ (k : g.row.K.Denot). is_before true (g.F.Front.side c.args.front k)) g.K.Key.order
    (falls_from g.K.Key.order (g.F.Front.side c.args.front) (g.met.F.Front.falls c.args.front) true) c.args.keys.now c.args.blocks.now c.requires sorted
    c.blocks_before-count.result c.blocks_before-count.ensures.within c.blocks_before-count.ensures.cut (omega (arith, c.if-count-eq0.false))
    c.split_at-2.result.0.now c.split_at-2.result.1.now c.split_at-2.ensures.front c.split_at-2.ensures.back c.index-rest-0.result c.index-rest-0.is
    c.as_slice-last.result.now c.as_slice-last.ensures.value c.keys_before-2.result c.keys_before-2.ensures.within c.keys_before-2.ensures.cut
    c.split_at-3.result.0.now c.split_at-3.ensures.front
