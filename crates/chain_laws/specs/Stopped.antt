-- A call by itself in which a stop was taken ends stopped, whatever its rules make of that.
use Rattle.std.specs.Prelude.{◌≡◌, true, false, List}
use Rattle.grid_model.specs.RuleText.{Rule}
use Rattle.grid_model.specs.Meanings.{gives}
use Rattle.grid_model.specs.Values.{Env, Value}
use Rattle.grid_model.specs.Doing.{Course}
use Rattle.grid_model.specs.Chains.{Named, halted}
use Rattle.grid_model.specs.declared.calls.Call.{Call}
use Rattle.grid_model.specs.declared.refusal.Failure.TheVariants.{Stopped}
use Rattle.chain_run.specs.Runs.{by_itself}

-- where a stop was taken, and none before, it halts with that
abbrev pub StopsHalt : Type 0
StopsHalt = (rules : List Rule) (env : Env) (c : Call) (vs : List Value) (s : Course) (n : Named) → s.stopped ≡ false
    → by_itself rules env c vs s ≡ gives n → n.state.stopped ≡ true → n.outcome ≡ halted Stopped
