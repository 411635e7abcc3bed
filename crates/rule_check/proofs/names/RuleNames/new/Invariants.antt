use Rattle.std.proofs.Common.{take}
use Rattle.rule_check.specs.Tables.{CountsRules}
use Rattle.rule_check.proofs.names.RuleNames.new.Given as goal

abbrev pub invariant-loop-rule : goal.invariant-loop-rule
invariant-loop-rule l = CountsRules l.counts (take l.rule-index l.rules)
