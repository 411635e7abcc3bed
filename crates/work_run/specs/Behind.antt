-- How far a request has come that does an operation or shows rows with its points.
use Rattle.std.specs.Prelude.{◌≡◌, ℕ, ◌≤◌, Bool, false, List, [], ◌++◌, Option, None, Ok, IsTrue}
use Rattle.grid_outside.specs.Disk.{DiskState}
use Rattle.grid_model.specs.Names.{Text}
use Rattle.grid_model.specs.RowGrids.{grid_of}
use Rattle.grid_model.specs.Rows.{Cat}
use Rattle.grid_model.specs.Doing.{Course}
use Rattle.grid_model.specs.Meanings.{Meaning, gives, ◌>>=◌}
use Rattle.grid_model.specs.Orders.{Order}
use Rattle.grid_model.specs.Points.{Point}
use Rattle.grid_model.specs.Sessions.{State}
use Rattle.grid_model.specs.Working.{Done, Sent, Worked, after_work, done, ending, rows_shown, with_points}
use Rattle.grid_model.specs.Runs.{Request, does}
use Rattle.grid_model.specs.declared.marks.Mark.{Mark}
use Rattle.grid_model.specs.declared.replies.End.{End}
use Rattle.grid_journal.specs.Journal.{Journal}
use Rattle.grid_headline.specs.Ends.{MakesFiles, WasDone}
use Rattle.grid_headline.specs.Numbers.{last_vault}
use Rattle.chain_run.specs.Places.{Place, course_at}
use Rattle.point_laws.specs.Works.{Work, work_of}
use Rattle.run_laws.specs.Steps.{CallsNoRules}
use Rattle.rule_run.specs.Finishing.{HasNothing}
use Rattle.service_run.specs.declared.command.Command.{Command}

-- behind these marks, at this place and after so many steps, the request does that
abbrev pub IsBehind : State → Request → List Mark → Place → ℕ → (Course → Meaning Done) → Type 0
IsBehind at request taken p begun rest = (later : List Mark) → does at request (taken ++ later) ≡ rest (course_at p later begun false)

-- what is left to be done in front of the rules before the work
abbrev pub from_start : State → Option Point → Text → Work → Course → Meaning Done
from_start at p user w s = with_points at p (work_of user w) s

-- and in front of the work
abbrev pub from_work : State → Option Point → Text → Work → Course → Meaning Done
from_work at p user w s = work_of user w s >>= after_work at p

-- what work says, shows and sends
pub record Said : Type 0 where
  pub words : List Text
  pub rows : List (List Text)
  pub sent : Option Sent

-- work that did not fail, and says this
abbrev pub worked_so : Said → Course → Worked
worked_so said s = record { state = s; failure = None; words = said.words; rows = said.rows; sent = said.sent }

-- and behind it
abbrev pub from_worked : State → Option Point → Said → Course → Meaning Done
from_worked at p said s = after_work at p (worked_so said s)

-- behind these marks, at this place, the request ends so, with these rows, and sent this
pub record IsEnded (at : State) (request : Request) (taken : List Mark) (p : Place) (rows : List (List Text)) (sent : Option Sent) (e : End)
    : Type 0 where
  pub begun : ℕ
  pub stopped : Bool
  pub found : List (List Text)
  pub told : End
  pub does_so : does at request taken ≡ gives (done at (course_at p [] begun stopped) [] found sent told)
  pub rows_are : rows_shown (course_at p [] begun stopped) told found ≡ rows
  pub end_is : ending (course_at p [] begun stopped) told ≡ e

-- where nothing is seen of a request that calls no rules nothing is to be kept of it, and main has what it had
abbrev pub LeavesNothing : State → Request → Cat → Journal → Command → DiskState → DiskState → Type 0
LeavesNothing at request before rows y old new = CallsNoRules at request → y.marks ≡ [] → grid_of rows.cat ≡ grid_of before
    → HasNothing rows y × (IsTrue old.tells → new.holds ≡ old.holds)

-- where it calls no rules nothing is to be kept of it so far, and rows and main have what they had
abbrev pub BeginsWithNothing : State → Request → Cat → Journal → Command → DiskState → DiskState → Type 0
BeginsWithNothing at request before rows y old new = CallsNoRules at request
    → HasNothing rows y × (rows.cat ≡ before) × (IsTrue old.tells → new.holds ≡ old.holds)

-- there was a number for a file before it, where the request makes files
abbrev pub HasNumber : Request → Cat → Type 0
HasNumber request before = (session : ℕ) (order : Order) → request ≡ Ok (session, order) → MakesFiles order → before.numbers.next_vault ≤ last_vault

-- and where it ends in this as one that was done
abbrev pub HasNumberIfDone : Request → Cat → End → Type 0
HasNumberIfDone request before e = WasDone e → HasNumber request before
