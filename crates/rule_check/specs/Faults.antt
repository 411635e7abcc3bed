-- The fault that counts, over faults that are found one after another.
use Rattle.std.specs.Prelude.{List, Option, Some, None, option_map}
use Rattle.grid_model.specs.Checks as checks
use Rattle.grid_model.specs.Checks.{first_fault, sooner}
use Rattle.rule_check.specs.declared.faults.Fault.{Fault}
use Rattle.rule_check.specs.declared.faults.Findings.{Findings}

-- the fault
abbrev pub fault_of : Fault → checks.Fault
fault_of f = (f.at, f.cause)

-- the fault that counts so far
abbrev pub fault_so_far : Findings → Option checks.Fault
fault_so_far f = option_map fault_of f.first

-- the one that counts of that and these
unfoldable pub least : Option checks.Fault → List checks.Fault → Option checks.Fault
least None fs = first_fault fs
least (Some f) fs = Some (sooner f (first_fault fs))
