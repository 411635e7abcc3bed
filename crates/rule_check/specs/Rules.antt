-- What the code knows, as the definitions have it.
use Rattle.std.specs.Prelude.{ℕ, Bool, nat_lt, not, ◌&&◌, ◌++◌, List, flat_map, map}
use Rattle.grid_model.specs.Checks as checks
use Rattle.grid_model.specs.Checks.{Fault, fault_if, is_point, is_rule, is_service, rule_takes, service_takes}
use Rattle.grid_model.specs.Names.{Text}
use Rattle.grid_model.specs.Parsed.{step_of}
use Rattle.grid_model.specs.RuleText.{Rule}
use Rattle.grid_model.specs.declared.rules.Step as parsed
use Rattle.grid_model.specs.declared.refusal.RuleCause.TheVariants.{Arity, Param, Taken, Unknown}
use Rattle.rule_check.specs.Tables.{without_places}
use Rattle.rule_check.specs.Words.{words}
use Rattle.rule_check.specs.declared.known.Known.{Known}
use Rattle.rule_check.specs.declared.names.RuleNames.{RuleNames}

-- what an expression may name
abbrev pub known_of : Known → checks.KnownNames
known_of k = record { params = k.params.now; sessions = words k.sessions.now }

-- the rules, without places
abbrev pub named_rules : RuleNames → List Rule
named_rules names = without_places names.rules.now

-- what is wrong with the name and the number of the arguments of a call
abbrev pub name_faults : List Rule → Text → ℕ → ℕ → List Fault
name_faults rs name place count =
    fault_if (not (is_service name) && not (is_rule rs name)) place Unknown
    ++ fault_if (is_service name && not (service_takes name count)) place Arity
    ++ fault_if (not (is_service name) && is_rule rs name && not (rule_takes rs name count)) place Arity

-- what is wrong with the name of a rule, and with the number of its parameters, one of which may be there twice
abbrev pub head_faults : List Rule → Text → ℕ → ℕ → Bool → List Fault
head_faults rs name place count is_repeated =
    fault_if (is_service name) place Taken
    ++ fault_if is_repeated place Param
    ++ fault_if (is_point name && nat_lt 0 count) place Arity
    ++ fault_if (not (rule_takes rs name count)) place Arity

-- what is wrong with steps
abbrev pub steps_faults : List Rule → checks.KnownNames → List parsed.Step → List Fault
steps_faults rs k steps = flat_map (checks.step_faults rs k) (map step_of steps)
