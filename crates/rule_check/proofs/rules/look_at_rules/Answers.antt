use Rattle.rule_check.specs.Faults.{fault_so_far}
use Rattle.rule_check.proofs.JoinedLemmas.{rules_joined}
use Rattle.rule_check.proofs.rules.look_at_rules.Goals as goal

pub returns : goal.returns
returns c =
    rules_joined c.args.names.now.rules.now (fault_so_far c.new-findings.result) (fault_so_far c.check_count.new.findings) (fault_so_far c.check_each.new.findings)
    c.new-findings.ensures c.check_count.ensures c.in_ok-check_each.ensures
