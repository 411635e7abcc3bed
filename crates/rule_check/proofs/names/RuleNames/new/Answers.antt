use Rattle.std.proofs.Common.{length, subst, arith}
use Rattle.rule_check.specs.Tables.{AddsName}
use Rattle.rule_check.proofs.TableLemmas.{counts_more}
use Rattle.rule_check.proofs.names.RuleNames.new.Goals as goal

pub loop-rule-preserved : goal.loop-rule-preserved
loop-rule-preserved c =
    let l = c.loop-rule in
    let r = c.rule-item.result in
    let named = subst (λ n. AddsName l.counts n (length c.as_slice-in-loop-rule.result.now) c.add.new.counts) c.as_slice.ensures c.in_ok-add.ensures in
    let adds = subst (λ ps. AddsName l.counts r.name (length ps) c.add.new.counts) c.as_slice-in-loop-rule.ensures named in
    counts_more l.counts c.add.new.counts c.args.rules.now l.rule-index r (omega arith) c.rule-item.is l.invariant adds
