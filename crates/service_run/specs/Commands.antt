-- A command on its way: where it is, and how it is noted while one of its calls runs.
use Rattle.std.specs.Prelude.{◌≡◌, ℕ, true, false, List, [], Some, IsTrue}
use Rattle.grid_model.specs.Rows.{Cat}
use Rattle.grid_model.specs.RowGrids.{grid_of, user_name}
use Rattle.grid_model.specs.Applying.{is_user}
use Rattle.grid_model.specs.Meanings.{Meaning, Waiting, waits}
use Rattle.grid_model.specs.Doing.{Course, Did}
use Rattle.grid_model.specs.declared.calls.Call.{Call}
use Rattle.grid_model.specs.declared.deltas.Pending.{Pending}
use Rattle.grid_headline.specs.Files.{KeepsNamed}
use Rattle.grid_headline.specs.Numbers.{KeepsNumbers}
use Rattle.count_laws.specs.GivenNumbers.{GivesFew}
use Rattle.size_laws.specs.Within.{IsWithin}
use Rattle.chain_run.specs.Places.{Place, course_at}
use Rattle.service_run.specs.declared.command.Command.{Command}

-- where it is by these rows
abbrev pub place_by : Cat → Command → Place
place_by c x = record { user = user_name c x.user; grid = grid_of c; taken = x.marks; passed = x.passed }

-- what is noted of it while this call runs, and a stop would have these recoveries done
abbrev pub noted_in : Command → Call → List Call → Pending
noted_in x call undo = record {
  run = x.run;
  number = x.number;
  user = x.user;
  line = x.line;
  marks = x.marks;
  passed = x.passed;
  running = Some call;
  undo = undo;
}

-- What rows have beside the grid and the pending command is as it was, and each user that is there keeps the name. No number of a
-- vault file is given again, few are given for so many marks, no file is lost track of, and the grid stays within the limits where it was.
pub record KeepsBeside (before after : Cat) (marks : ℕ) : Type 0 where
  pub run : after.numbers.run ≡ before.numbers.run
  pub last : after.numbers.last ≡ before.numbers.last
  pub rules : after.rules ≡ before.rules
  pub stores : after.stores ≡ before.stores
  pub keeps : KeepsNumbers before after
  pub few : GivesFew before after marks
  pub named : KeepsNamed before after
  pub within : IsWithin (grid_of before) → IsWithin (grid_of after)
  pub users : (id : ℕ) → IsTrue (is_user before id) → IsTrue (is_user after id)
  pub names : (id : ℕ) → IsTrue (is_user before id) → user_name after id ≡ user_name before id

-- The catalogue notes the command: its grid is that of these rows, the command waits in the call, and numbers are given for one mark.
pub record IsNoted (rows : Cat) (x : Command) (call : Call) (undo : List Call) (c : Cat) : Type 0 where
  pub grid : grid_of c ≡ grid_of rows
  pub beside : KeepsBeside rows c 1
  pub pending : c.pending ≡ Some (noted_in x call undo)

-- what a call waits for at a place
abbrev pub waiting_at : Place → Call → Waiting
waiting_at p call = record { call = call; grid = p.grid; taken = p.taken; passed = p.passed; undo = [] }

-- It waits there for a mark, before any is taken.
abbrev pub WaitsAt : (Course → Meaning Did) → Place → Call → Type 0
WaitsAt does p call = (begun : ℕ)
    → (does (course_at p [] begun false) ≡ waits (waiting_at p call)) × (does (course_at p [] begun true) ≡ waits (waiting_at p call))
