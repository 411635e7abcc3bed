use Rattle.std.proofs.Common.{◌≡◌, ◌||◌, not, ◌∙◌, ap, subst, arith}
use Rattle.rule_check.specs.Tables.{AddsText, is_in_set}
use Rattle.rule_check.proofs.TableLemmas.{texts_more, repeats_more, or_then, or_later}
use Rattle.rule_check.proofs.known.Known.new.Goals as goal
use Rattle.rule_check.proofs.known.Known.new.Goals.{then-is_repeated, else-is_repeated}

pub loop-param-preserved : goal.loop-param-preserved
loop-param-preserved c =
    let l = c.loop-param in
    let t = c.param-item.result in
    let adds : AddsText l.set t c.add.new.set = subst (λ x. AddsText l.set x c.add.new.set) c.as_slice.ensures c.in_ok-fresh.ensures.added in
    let fresh : c.in_ok-fresh.fresh ≡ not (is_in_set l.set t) = c.in_ok-fresh.ensures.fresh ∙ ap (λ x. not (is_in_set l.set x)) c.as_slice.ensures in
    let step : c.if-is_repeated.is_repeated ≡ (l.is_repeated || not c.in_ok-fresh.fresh) =
    elim c.if-is_repeated.branch [
      | then-is_repeated w ↦ or_then l.is_repeated (not c.in_ok-fresh.fresh) c.if-is_repeated.is_repeated w.if-is_repeated.true w.is_repeated-is
      | else-is_repeated w ↦ or_later l.is_repeated (not c.in_ok-fresh.fresh) c.if-is_repeated.is_repeated w.if-is_repeated.false w.is_repeated-is
    ] in
    record {
      has = texts_more l.set c.add.new.set c.args.params.now l.param-index t (omega arith) c.param-item.is l.invariant.has adds;
      repeated = step ∙ repeats_more l.set c.args.params.now l.param-index t l.is_repeated c.in_ok-fresh.fresh (omega arith) c.param-item.is l.invariant.has l.invariant.repeated fresh;
    }
