-- What rules, requests and openings leave is within the limits where it began within them.
use Rattle.std.specs.Prelude.{◌≡◌, ℕ, List, Option}
use Rattle.grid_model.specs.Names.{Text}
use Rattle.grid_model.specs.Grid.{Grid}
use Rattle.grid_model.specs.Rows.{Cat}
use Rattle.grid_model.specs.RowGrids.{grid_of}
use Rattle.grid_model.specs.RuleText.{Rule}
use Rattle.grid_model.specs.Values.{Env}
use Rattle.grid_model.specs.Meanings.{Meaning, gives}
use Rattle.grid_model.specs.Doing.{Course}
use Rattle.grid_model.specs.Chains.{Named, call_rule}
use Rattle.grid_model.specs.Points.{Point}
use Rattle.grid_model.specs.Sessions.{State}
use Rattle.grid_model.specs.Orders.{Order}
use Rattle.grid_model.specs.Operations.Table.{Operation}
use Rattle.grid_model.specs.Working.{Done, Worked, work, run_point, with_points}
use Rattle.grid_model.specs.Obeying.{command}
use Rattle.grid_model.specs.Reopening.{Unwound, reopened}
use Rattle.grid_model.specs.Runs.{Request, does}
use Rattle.grid_model.specs.declared.calls.Call.{Call}
use Rattle.grid_model.specs.declared.marks.Mark.{Mark}
use Rattle.size_laws.specs.Laws.{grid_left}
use Rattle.size_laws.specs.Within.{IsWithin, EndsWithin}

-- ---- rules

-- the grid of what the rules of a name left
abbrev pub grid_named : Named → Grid
grid_named n = n.state.grid

-- a call of rules leaves the grid within the limits
abbrev pub NamesKeepWithin : Type 0
NamesKeepWithin = (rules : List Rule) (env : Env) (name : Text) (args : List Text) (s : Course) → IsWithin s.grid
    → EndsWithin grid_named (call_rule rules env name args s)

-- so do the rules of a point
abbrev pub PointsKeepWithin : Type 0
PointsKeepWithin = (rules : List Rule) (p : Option Point) (name : Point → Text) (s : Course) → IsWithin s.grid
    → EndsWithin grid_left (run_point rules p name s)

-- ---- operations with their points

-- the grid of what an operation left
abbrev pub grid_worked : Worked → Grid
grid_worked w = w.state.grid

-- the grid of what a command left
abbrev pub grid_done : Done → Grid
grid_done d = d.state.grid

-- an operation leaves the grid within the limits, without its points
abbrev pub WorksKeepWithin : Type 0
WorksKeepWithin = (c : Call) (user : Text) (op : Operation) (s : Course) → IsWithin s.grid → EndsWithin grid_worked (work c user op s)

-- so does whatever leaves it so, with its points
abbrev pub PointedKeepWithin : Type 0
PointedKeepWithin = (at : State) (p : Option Point) (operation : Course → Meaning Worked) (s : Course)
    → ((t : Course) → IsWithin t.grid → EndsWithin grid_worked (operation t)) → IsWithin s.grid
    → EndsWithin grid_done (with_points at p operation s)

-- ---- requests

-- whatever is ordered, with whatever marks, the grid stays within the limits, also where the command waits
abbrev pub CommandsKeepWithin : Type 0
CommandsKeepWithin = (at : State) (n : ℕ) (order : Order) (marks : List Mark) → IsWithin at.grid → EndsWithin grid_done (command at n order marks)

-- what a request leaves is within the limits
abbrev pub RequestsKeepWithin : Type 0
RequestsKeepWithin = (at : State) (request : Request) (marks : List Mark) (d : Done) → IsWithin at.grid → does at request marks ≡ gives d
    → IsWithin d.state.grid

-- what opening a catalogue leaves is within the limits
abbrev pub OpeningKeepsWithin : Type 0
OpeningKeepsWithin = (c : Cat) (marks : List Mark) (u : Unwound) → IsWithin (grid_of c) → reopened c marks ≡ gives u → IsWithin u.grid
