use Rattle.std.proofs.Common.{◌≡◌, map, take}
use Rattle.std.specs.List.{flat_map}
use Rattle.grid_model.specs.Checks.{step_faults}
use Rattle.grid_model.specs.Parsed.{step_of}
use Rattle.rule_check.specs.Faults.{fault_so_far, least}
use Rattle.rule_check.specs.Rules.{known_of, named_rules}
use Rattle.rule_check.proofs.calls.check_steps.Given as goal

abbrev pub invariant-loop-step : goal.invariant-loop-step
invariant-loop-step l =
    fault_so_far l.findings ≡ least (fault_so_far l.initial.findings) (flat_map (step_faults (named_rules l.names) (known_of l.known)) (map step_of (take l.step-index l.steps)))
