use Rattle.std.proofs.Common.{subst, sym}
use Rattle.chain_core.specs.Seen.{rules_of}
use Rattle.chain_core.specs.Settling.{KeepsRest}
use Rattle.chain_core.proofs.Settling.{keeps_move, turn_settled}
use Rattle.chain_core.proofs.frames.Frames.settle.Goals as goal

pub loop-going-preserved : goal.loop-going-preserved
loop-going-preserved c =
    let rs = rules_of c.args.rules.now in
    record {
      keeps = subst (KeepsRest rs c.args.self.now) (sym c.advance-going.ensures.moved) (keeps_move rs c.args.self.now c.loop-going.self c.loop-going.invariant.keeps);
      settled = turn_settled rs c.loop-going.self c.advance-going.new.self c.advance-going.result c.advance-going.ensures.moved c.advance-going.ensures.going;
    }
