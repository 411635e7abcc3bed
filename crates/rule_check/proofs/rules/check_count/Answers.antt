use Rattle.std.proofs.Common.{◌∙◌, ap, arith}
use Rattle.rule_check.specs.Faults.{fault_so_far, least}
use Rattle.rule_check.proofs.JoinedLemmas.{count-few, count-many}
use Rattle.rule_check.proofs.rules.check_count.Goals as goal

pub returns-in-None : goal.returns-in-None
returns-in-None c = count-few c.args.rules.now (fault_so_far c.args.findings.now) (omega (arith, c.in-None.ensures.lookup.3))

pub returns-in-Some : goal.returns-in-Some
returns-in-Some c = c.note.ensures ∙ ap (least (fault_so_far c.args.findings.now)) (count-many c.args.rules.now c.in-Some.rule.now (omega (arith, c.in-Some.ensures.lookup.3.0)) c.in-Some.ensures.lookup.1)
