use Rattle.rule_check.specs.Faults.{fault_so_far}
use Rattle.rule_check.specs.Rules.{known_of, named_rules}
use Rattle.rule_check.proofs.JoinedLemmas.{call_joined}
use Rattle.rule_check.proofs.calls.check_call.Goals as goal

pub returns : goal.returns
returns c =
    call_joined (named_rules c.args.names.now) (known_of c.args.known.now) c.args.call.now c.as_slice-name.result.now c.as_slice-args.result.now
    (fault_so_far c.args.findings.now) (fault_so_far c.check_name.new.findings) (fault_so_far c.check_first.new.findings) (fault_so_far c.check_arguments.new.findings)
    c.as_slice-name.ensures c.as_slice-args.ensures c.check_name.ensures c.check_first.ensures c.check_arguments.ensures
