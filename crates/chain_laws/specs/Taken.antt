-- A call by itself takes its marks in their order, from the first one on.
use Rattle.std.specs.Prelude.{◌≡◌, ◌++◌, List}
use Rattle.grid_model.specs.RuleText.{Rule}
use Rattle.grid_model.specs.Meanings.{gives}
use Rattle.grid_model.specs.Values.{Env, Value}
use Rattle.grid_model.specs.Doing.{Course}
use Rattle.grid_model.specs.Chains.{Named}
use Rattle.grid_model.specs.declared.calls.Call.{Call}
use Rattle.chain_run.specs.Runs.{by_itself}

-- the marks that were taken, with those that are left behind them, are those that there were
abbrev pub TakesInOrder : Type 0
TakesInOrder = (rules : List Rule) (env : Env) (c : Call) (vs : List Value) (s : Course) (n : Named) → by_itself rules env c vs s ≡ gives n
    → n.state.taken ++ n.state.marks ≡ s.taken ++ s.marks
