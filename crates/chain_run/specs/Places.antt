-- Where a doer of calls is, and what its calls do.
use Rattle.std.specs.Prelude.{◌≡◌, ℕ, Bool, false, List, ◌++◌, Option, Result}
use Rattle.grid_model.specs.Names.{Text}
use Rattle.grid_model.specs.Grid.{Grid}
use Rattle.grid_model.specs.Meanings.{gives}
use Rattle.grid_model.specs.Doing.{Course, do_call}
use Rattle.grid_model.specs.declared.calls.Call.{Call}
use Rattle.grid_model.specs.declared.marks.Mark.{Mark}
use Rattle.grid_model.specs.declared.replies.Passed.{Passed}
use Rattle.grid_model.specs.declared.refusal.Failure.{Failure}
use Rattle.chain_core.specs.Answers.{failure_in, Undoes}
use Rattle.chain_core.specs.Moves.{was_stopped}

-- For whom calls are done, the grid, the marks that were taken and the recoveries that were passed over. Which marks are
-- still to come no doer knows.
pub record Place : Type 0 where
  pub user : Text
  pub grid : Grid
  pub taken : List Mark
  pub passed : List Passed

-- where a command is that came there, with these marks still to come, after so many steps, stopped or not
abbrev pub course_at : Place → List Mark → ℕ → Bool → Course
course_at p marks begun stopped = record { grid = p.grid; marks = marks; taken = p.taken; begun = begun; passed = p.passed; stopped = stopped }

-- the same before any step
abbrev pub course_from : Place → List Mark → Course
course_from p marks = course_at p marks 0 false

-- From the one place to the other some marks were taken: every command with these marks next, and any others behind them, was
-- brought on so.
pub record Brings (Did : Course → Course → Type 0) (from to : Place) : Type 0 where
  pub user : to.user ≡ from.user
  pub marks : List Mark
  pub taken : to.taken ≡ from.taken ++ marks
  pub did : (later : List Mark) (begun : ℕ) (stopped : Bool)
      → (left : Bool) × Did (course_at from (marks ++ later) begun stopped) (course_at to later begun left)

-- the user's call of a micro-service did that, and ran or failed so
abbrev pub RunsCall : Text → Call → Result Unit Failure → Course → Course → Type 0
RunsCall user c r s t = do_call user c s ≡ gives (record { state = t; failure = failure_in r })

-- the call, which ran or failed so
abbrev pub Performs : Call → Result Unit Failure → Place → Place → Type 0
Performs c r from to = Brings (RunsCall from.user c r) from to

-- the recovery, which was run or failed so: one that failed is passed over, and none is stopped
pub record Recovers (c : Call) (y : Option Failure) (from to : Place) : Type 0 where
  pub brings : Brings (Undoes from.user c y) from to
  pub unstopped : was_stopped y ≡ false
