use Rattle.std.proofs.Common.{arith}
use Rattle.grid_model.specs.Checks.{step_faults}
use Rattle.grid_model.specs.Parsed.{step_of}
use Rattle.rule_check.specs.Faults.{fault_so_far}
use Rattle.rule_check.specs.Rules.{known_of, named_rules}
use Rattle.rule_check.proofs.Keeping.{keep_more}
use Rattle.rule_check.proofs.calls.check_steps.Goals as goal

pub loop-step-preserved : goal.loop-step-preserved
loop-step-preserved c =
    let l = c.loop-step in
    keep_more step_of (step_faults (named_rules c.args.names.now) (known_of c.args.known.now))
    (fault_so_far c.args.findings.now) (fault_so_far l.findings) (fault_so_far c.check_step.new.findings) c.args.steps.now l.step-index c.step-item.result
    (omega arith) c.step-item.is l.invariant c.check_step.ensures
