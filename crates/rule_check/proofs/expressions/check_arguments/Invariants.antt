use Rattle.std.proofs.Common.{◌≡◌, map, take}
use Rattle.std.specs.List.{flat_map}
use Rattle.grid_model.specs.Checks.{argument_faults}
use Rattle.grid_model.specs.Parsed.{term_of}
use Rattle.rule_check.specs.Faults.{fault_so_far, least}
use Rattle.rule_check.specs.Rules.{known_of}
use Rattle.rule_check.proofs.expressions.check_arguments.Given as goal

abbrev pub invariant-loop-arg : goal.invariant-loop-arg
invariant-loop-arg l =
    fault_so_far l.findings ≡ least (fault_so_far l.initial.findings) (flat_map (argument_faults (known_of l.known) l.name) (map term_of (take l.arg-index l.args)))
