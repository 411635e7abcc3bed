use Rattle.std.proofs.Common.{◌≡◌, map, take}
use Rattle.std.specs.List.{flat_map}
use Rattle.grid_model.specs.Checks.{rule_faults}
use Rattle.grid_model.specs.Parsed.{rule_of}
use Rattle.rule_check.specs.Faults.{fault_so_far, least}
use Rattle.rule_check.specs.Rules.{named_rules}
use Rattle.rule_check.proofs.rules.check_each.Given as goal

abbrev pub invariant-loop-rule : goal.invariant-loop-rule
invariant-loop-rule l =
    fault_so_far l.findings ≡ least (fault_so_far l.initial.findings) (flat_map (rule_faults (named_rules l.names)) (map rule_of (take l.rule-index l.rules)))
