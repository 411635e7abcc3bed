-- Operations and queries with their points: how they take marks, how they end, what they send, and that they can be brought to an end.
use Rattle.std.specs.Prelude.{◌≡◌, ℕ, ◌<◌, ◌≤◌, List, [], ◌++◌, Option, Some, Err, length}
use Rattle.grid_model.specs.Grid.{Grid}
use Rattle.grid_model.specs.Names.{Text}
use Rattle.grid_model.specs.Refusing.{Or}
use Rattle.grid_model.specs.Meanings.{Meaning, gives, ◌>>=◌}
use Rattle.grid_model.specs.Obeying.{query_work}
use Rattle.grid_model.specs.Operations.Table.{Operation}
use Rattle.grid_model.specs.Completing.{AreClean, EndsByRows, IsOfGrid}
use Rattle.grid_model.specs.Doing.{Course, Did}
use Rattle.grid_model.specs.Points.{Point, point_of, query_point}
use Rattle.grid_model.specs.Sessions.{State}
use Rattle.grid_model.specs.Working.{Done, Sent, Worked, after_pre, after_work, begun, running, with_points, work}
use Rattle.grid_model.specs.declared.marks.Mark.{Mark}
use Rattle.grid_model.specs.declared.queries.Query.{Query}
use Rattle.chain_laws.specs.Ending.{AreRan}

-- ---- what is done between the rules of a point

-- an operation, or the rows that a query asks for
pub data Work : Type 0 where
  operation : Operation → Work
  query : Or Query → Work

-- what it does for the user
abbrev pub work_of : Text → Work → Course → Meaning Worked
work_of user (operation op) s = work (running op) user op s
work_of user (query q) s = query_work user q s

-- its point
abbrev pub point_at : Grid → Text → Work → Option Point
point_at g user (operation op) = point_of g user op
point_at g user (query q) = query_point user

-- the rules before it, the work and the rules behind it
abbrev pub runs_work : State → Text → Work → Course → Meaning Done
runs_work at user w s = with_points at (point_at s.grid user w) (work_of user w) s

-- a query that is none is refused by its text alone
abbrev pub IsAskedSo : Work → Type 0
IsAskedSo (query (Err r)) = IsOfGrid r
IsAskedSo other = Unit {0}

-- ---- its marks, its end and what it sends

-- the marks that it took, with those that are left behind them, are those that there were
abbrev pub WorksTakeInOrder : Type 0
WorksTakeInOrder = (at : State) (user : Text) (w : Work) (marks : List Mark) (d : Done) → runs_work at user w (begun at.grid marks) ≡ gives d
    → d.reply.marks ++ d.left ≡ marks

-- with clean marks it ends by the grid or by a step
abbrev pub WorksEndByRows : Type 0
WorksEndByRows = (at : State) (user : Text) (w : Work) (marks : List Mark) (d : Done) → IsAskedSo w → AreClean marks
    → runs_work at user w (begun at.grid marks) ≡ gives d → EndsByRows d.reply.end

-- what it sends, if anything, stands behind so many marks at least, and in front of one of them
abbrev pub SendsBehind : ℕ → Done → Type 0
SendsBehind count d = (sent : Sent) → d.sent ≡ Some sent → (count ≤ sent.before) × (sent.before < length d.reply.marks)

-- once it took all marks, it sent behind those that were taken before it, which the rules before it took
abbrev pub WorksSendBehind : Type 0
WorksSendBehind = (at : State) (p : Option Point) (user : Text) (w : Work) (before : Did) (d : Done) → after_pre at p (work_of user w) before ≡ gives d
    → d.left ≡ [] → SendsBehind (length before.state.taken) d

-- from behind the operation, it sends what that sent
abbrev pub AfterWorkSends : Type 0
AfterWorkSends = (at : State) (p : Option Point) (w : Worked) (d : Done) → after_work at p w ≡ gives d → d.sent ≡ w.sent

-- ---- it can be brought to an end

-- with some marks of deeds that ran it ends, and leaves none
pub record DoneEnds (does : List Mark → Meaning Done) : Type 0 where
  pub rest : List Mark
  pub ran : AreRan rest
  pub d : Done
  pub gives_so : does rest ≡ gives d
  pub all : d.left ≡ []

-- how far it has come, with these marks left
abbrev pub leaving : List Mark → Course → Course
leaving later s = record s { marks = later }

-- behind the operation
abbrev pub AfterWorkEnds : Type 0
AfterWorkEnds = (at : State) (p : Option Point) (w : Worked) → DoneEnds (λ later. after_work at p (record w { state = leaving later w.state }))

-- in front of it
abbrev pub WorkEnds : Type 0
WorkEnds = (at : State) (p : Option Point) (user : Text) (w : Work) (s : Course) → DoneEnds (λ later. work_of user w (leaving later s) >>= after_work at p)

-- behind the rules before it
abbrev pub PreEnds : Type 0
PreEnds = (at : State) (p : Option Point) (user : Text) (w : Work) (d : Did)
    → DoneEnds (λ later. after_pre at p (work_of user w) (record d { state = leaving later d.state }))
