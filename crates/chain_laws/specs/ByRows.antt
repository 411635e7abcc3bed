-- With clean marks rules end by the rows and by their steps, and never by a mark.
use Rattle.std.specs.Prelude.{◌≡◌, false, List}
use Rattle.grid_model.specs.Names.{Text}
use Rattle.grid_model.specs.Grid.{Grid}
use Rattle.grid_model.specs.RuleText.{Rule}
use Rattle.grid_model.specs.Meanings.{gives}
use Rattle.grid_model.specs.Values.{Env, Value}
use Rattle.grid_model.specs.Doing.{Course}
use Rattle.grid_model.specs.Chains.{Outcome, Named, ended_well, failed, halted, none_applied, call_rule}
use Rattle.grid_model.specs.Operations.Table.{Operation, row}
use Rattle.grid_model.specs.Completing.{AreClean, IsOfGrid, IsOfStep}
use Rattle.grid_model.specs.declared.calls.Call.{Call}
use Rattle.grid_model.specs.declared.refusal.Refusal.{Refusal}
use Rattle.chain_run.specs.Runs.{by_itself}
use Rattle.std.specs.Prelude.{Err}

-- what refuses any operation is of the grid
abbrev pub RowsAreOfGrid : Type 0
RowsAreOfGrid = (g : Grid) (user : Text) (op : Operation) (r : Refusal) → row g user op ≡ Err r → IsOfGrid r

-- where rules failed, it is by the grid or by a step
abbrev pub OutcomeByRows : Outcome → Type 0
OutcomeByRows ended_well = Unit {0}
OutcomeByRows (failed f) = IsOfStep f
OutcomeByRows (halted f) = IsOfStep f
OutcomeByRows none_applied = Unit {0}

-- with clean marks, where no stop was taken, a call of rules ends so
abbrev pub NamesEndByRows : Type 0
NamesEndByRows = (rules : List Rule) (env : Env) (name : Text) (args : List Text) (s : Course) (n : Named) → AreClean s.marks → s.stopped ≡ false
    → call_rule rules env name args s ≡ gives n → OutcomeByRows n.outcome

-- and a call by itself
abbrev pub CallsEndByRows : Type 0
CallsEndByRows = (rules : List Rule) (env : Env) (c : Call) (vs : List Value) (s : Course) (n : Named) → AreClean s.marks → s.stopped ≡ false
    → by_itself rules env c vs s ≡ gives n → OutcomeByRows n.outcome
