use Rattle.std.proofs.Common.{◌≡◌, map, take}
use Rattle.grid_model.specs.Parsed.{plain_rule, rule_of}
use Rattle.rule_parse.specs.Printed.{print_rules}
use Rattle.rule_parse.proofs.printer.print_rules.Given as goal

abbrev pub invariant-loop-rule : goal.invariant-loop-rule
invariant-loop-rule l = l.out.items ≡ print_rules (map plain_rule (map rule_of (take l.rule-index l.rule-items)))
