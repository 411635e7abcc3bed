use Rattle.std.proofs.Common.{arith}
use Rattle.grid_model.specs.Checks.{argument_faults}
use Rattle.grid_model.specs.Parsed.{term_of}
use Rattle.rule_check.specs.Faults.{fault_so_far}
use Rattle.rule_check.specs.Rules.{known_of}
use Rattle.rule_check.proofs.Keeping.{keep_more}
use Rattle.rule_check.proofs.expressions.check_arguments.Goals as goal

pub loop-arg-preserved : goal.loop-arg-preserved
loop-arg-preserved c =
    let l = c.loop-arg in
    keep_more term_of (argument_faults (known_of c.args.known.now) c.args.name.now)
    (fault_so_far c.args.findings.now) (fault_so_far l.findings) (fault_so_far c.check_argument.new.findings) c.args.args.now l.arg-index c.arg-item.result
    (omega arith) c.arg-item.is l.invariant c.check_argument.ensures
