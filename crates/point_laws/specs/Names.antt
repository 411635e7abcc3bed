-- Rules of a name: in what order they take marks, and what a stop makes of them.
use Rattle.std.specs.Prelude.{◌≡◌, ◌⊎◌, true, false, List, ◌++◌}
use Rattle.grid_model.specs.Names.{Text}
use Rattle.grid_model.specs.RuleText.{Rule}
use Rattle.grid_model.specs.Meanings.{gives}
use Rattle.grid_model.specs.Values.{Env}
use Rattle.grid_model.specs.Doing.{Course}
use Rattle.grid_model.specs.Chains.{Named, Outcome, call_rule, failed, halted}
use Rattle.grid_model.specs.declared.refusal.Failure.TheVariants.{Stopped}

-- the marks that were taken, with those that are left behind them, are those that there were
abbrev pub NamesTakeInOrder : Type 0
NamesTakeInOrder = (rules : List Rule) (env : Env) (name : Text) (args : List Text) (s : Course) (n : Named) → call_rule rules env name args s ≡ gives n
    → n.state.taken ++ n.state.marks ≡ s.taken ++ s.marks

-- where a stop was taken, and none before, they halt with that
abbrev pub NamesHalt : Type 0
NamesHalt = (rules : List Rule) (env : Env) (name : Text) (args : List Text) (s : Course) (n : Named) → s.stopped ≡ false
    → call_rule rules env name args s ≡ gives n → n.state.stopped ≡ true → n.outcome ≡ halted Stopped

-- the outcome is that a stop was taken
abbrev pub IsStoppedSo : Outcome → Type 0
IsStoppedSo o = (o ≡ halted Stopped) ⊎ (o ≡ failed Stopped)

-- and they fail as stopped only where one was taken
abbrev pub NamesAreStopped : Type 0
NamesAreStopped = (rules : List Rule) (env : Env) (name : Text) (args : List Text) (s : Course) (n : Named)
    → call_rule rules env name args s ≡ gives n → IsStoppedSo n.outcome → n.state.stopped ≡ true
