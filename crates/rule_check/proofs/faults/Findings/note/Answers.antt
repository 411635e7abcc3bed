use Rattle.rule_check.specs.Faults.{fault_so_far}
use Rattle.rule_check.proofs.Keeping.{least-nil}
use Rattle.rule_check.proofs.faults.Findings.note.Goals as goal

pub returns-else-is_fault : goal.returns-else-is_fault
returns-else-is_fault c = rw c.if-is_fault.false (least-nil (fault_so_far c.args.self.now))
