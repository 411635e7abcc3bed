-- A request that does an operation, or shows what a query asks for, with its points.
use Rattle.std.specs.Prelude.{◌≡◌, ℕ, List, Ok}
use Rattle.grid_model.specs.Names.{Text}
use Rattle.grid_model.specs.Refusing.{Or}
use Rattle.grid_model.specs.Obeying.{query_work}
use Rattle.grid_model.specs.Orders.{Order, works}
use Rattle.grid_model.specs.Operations.Table.{Operation}
use Rattle.grid_model.specs.Points.{query_point}
use Rattle.grid_model.specs.Sessions.{State}
use Rattle.grid_model.specs.Working.{begun, operate, with_points}
use Rattle.grid_model.specs.Runs.{Request, does}
use Rattle.grid_model.specs.declared.marks.Mark.{Mark}
use Rattle.grid_model.specs.declared.queries.Query.{Query}
use Rattle.grid_headline.specs.Ends.{MakesFiles}
use Rattle.run_laws.specs.Ends.{MakesFile}
use Rattle.point_laws.specs.Works.{Work, operation, query, runs_work}

-- the request does this operation of the user
abbrev pub DoesWork : State → Request → Text → Operation → Type 0
DoesWork at request user op = (marks : List Mark) → does at request marks ≡ operate at user op (begun at.grid marks)

-- the request shows the user what this query asks for, or says why not
abbrev pub DoesQuery : State → Request → Text → Or Query → Type 0
DoesQuery at request user q = (marks : List Mark) → does at request marks ≡ with_points at (query_point user) (query_work user q) (begun at.grid marks)

-- the request does this work of the user
abbrev pub DoesSo : State → Request → Text → Work → Type 0
DoesSo at request user w = (marks : List Mark) → does at request marks ≡ runs_work at user w (begun at.grid marks)

-- the work makes files
abbrev pub MakesFileBy : Work → Type 0
MakesFileBy (operation op) = MakesFile (works op 0)
MakesFileBy (query q) = ⊥

-- but for rules, the request makes files only by this work
abbrev pub MakesFilesBy : Request → Work → Type 0
MakesFilesBy request w = (session : ℕ) (order : Order) → request ≡ Ok (session, order) → MakesFiles order → MakesFileBy w
