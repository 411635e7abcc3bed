use Rattle.rule_check.specs.Faults.{fault_so_far}
use Rattle.rule_check.specs.Rules.{known_of, named_rules}
use Rattle.rule_check.proofs.JoinedLemmas.{call_alone, same_exec}
use Rattle.rule_check.proofs.rules.look_at_call.Goals as goal

pub returns : goal.returns
returns c =
    let known = c.in_ok-known.known in
    call_alone (named_rules c.args.names.now) (known_of known) c.args.call.now (fault_so_far c.new-findings.result) (fault_so_far c.check_call.new.findings)
    c.new-findings.ensures (same_exec known c.in_ok-known.ensures.params c.in_ok-known.ensures.sessions) c.check_call.ensures
