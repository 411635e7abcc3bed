use Rattle.std.proofs.Common.{◌∙◌, sym}
use Rattle.rule_check.specs.Faults.{fault_of}
use Rattle.rule_check.proofs.Keeping.{least-none, least-first, least-later}
use Rattle.rule_check.proofs.faults.Findings.add.Goals as goal

pub returns-in-None : goal.returns-in-None
returns-in-None c = rw c.in-None.is (least-none (fault_of c.args.fault))

pub returns-then-comes_first : goal.returns-then-comes_first
returns-then-comes_first c =
    rw c.in-Some.is (least-first (fault_of c.args.fault) (fault_of c.in-Some.first) (sym c.comes_first.ensures ∙ c.if-comes_first.true))

pub returns-else-comes_first : goal.returns-else-comes_first
returns-else-comes_first c =
    rw c.in-Some.is (least-later (fault_of c.args.fault) (fault_of c.in-Some.first) (sym c.comes_first.ensures ∙ c.if-comes_first.false))
