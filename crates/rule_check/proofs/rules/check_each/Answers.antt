use Rattle.std.proofs.Common.{arith}
use Rattle.grid_model.specs.Checks.{rule_faults}
use Rattle.grid_model.specs.Parsed.{rule_of}
use Rattle.rule_check.specs.Faults.{fault_so_far}
use Rattle.rule_check.specs.Rules.{named_rules}
use Rattle.rule_check.proofs.Keeping.{keep_more}
use Rattle.rule_check.proofs.rules.check_each.Goals as goal

pub loop-rule-preserved : goal.loop-rule-preserved
loop-rule-preserved c =
    let l = c.loop-rule in
    keep_more rule_of (rule_faults (named_rules c.args.names.now))
    (fault_so_far c.args.findings.now) (fault_so_far l.findings) (fault_so_far c.check_rule.new.findings) c.args.rules.now l.rule-index c.rule-item.result
    (omega arith) c.rule-item.is l.invariant c.in_ok-check_rule.ensures
