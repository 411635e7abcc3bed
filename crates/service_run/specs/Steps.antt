-- What one call of a command leaves, done, refused or cut short.
use Rattle.std.specs.Prelude.{◌≡◌, ◌⊎◌, ℕ, ◌^◌, ◌<◌, List, [], ◌++◌, Some, Result, Ok, Err, IsTrue, flat_map, length}
use Rattle.std.specs.List.{AllByRecursion, list_all}
use Rattle.grid_outside.specs.Device.{DeviceState, IsSettled, Looks}
use Rattle.grid_outside.specs.Sink.{AddsPart}
use Rattle.grid_outside.specs.declared.outside.Wear.TheVariants as wear
use Rattle.grid_model.specs.Names.{Text}
use Rattle.grid_model.specs.Rows.{Cat}
use Rattle.grid_model.specs.Deltas.{all_fit, mark as mark_parts}
use Rattle.grid_model.specs.Meanings.{Meaning, gives}
use Rattle.grid_model.specs.Doing.{Course, Did}
use Rattle.grid_model.specs.Replies.{mark_line}
use Rattle.grid_model.specs.declared.calls.Call.{Call}
use Rattle.grid_model.specs.declared.marks.Mark.{Mark}
use Rattle.grid_model.specs.declared.refusal.Failure.{Failure}
use Rattle.grid_journal.specs.Journal.{Journal, ClosesAt}
use Rattle.grid_journal.specs.Stands.{StandsFor}
use Rattle.grid_deed.specs.Held.{IsHeld}
use Rattle.grid_deed.specs.Safe.{AreWhole, KeepBothWhole}
use Rattle.grid_headline.specs.Causes.{AreCaused}
use Rattle.grid_headline.specs.Numbers.{last_vault}
use Rattle.grid_headline.specs.Worlds.{World, StoreTells}
use Rattle.chain_core.specs.Answers.{failure_in}
use Rattle.chain_run.specs.Places.{Place, Brings}
use Rattle.run_laws.specs.Steps.{Gave, IsToldOf}
use Rattle.service_run.specs.declared.command.Command.{Command}
use Rattle.service_run.specs.declared.ending.Ending.{Ending}
use Rattle.service_run.specs.declared.ending.Ending.TheVariants as ending
use Rattle.service_run.specs.Commands.{IsNoted, KeepsBeside, WaitsAt, noted_in, place_by}

-- ---- what it did

-- what was to be done came to that: it ran, or failed so
abbrev pub ComesTo : (Course → Meaning Did) → Result Unit Failure → Course → Course → Type 0
ComesTo does ran s t = does s ≡ gives (record { state = t; failure = failure_in ran })

-- From the one place to the other it was done, with the marks that were taken.
abbrev pub Does : (Course → Meaning Did) → Result Unit Failure → Place → Place → Type 0
Does does ran from to = Brings (ComesTo does ran) from to

-- the lines of some marks of the command of this number
abbrev pub lines_of : ℕ → List Mark → Text
lines_of n marks = flat_map (mark_line n) marks

-- ---- what is known of files

-- The files of the store in this slot are known: it tells, nothing was pending on main, and all was whole by these rows.
pub record IsKnownBy {B : Type 0} (w : World B) (rows : Cat) (slot : ℕ) : Type 0 where
  pub settled : IsSettled w.main
  pub whole : (t : ℕ) → w.moments < t → AreWhole w.plugin t rows w.stores
  pub there : StoreTells w slot

-- ---- what a stop leaves

-- the device was not called
pub record IsStill {C : Type 0} (old new : DeviceState C) : Type 0 where
  pub faults : new.faults ≡ old.faults
  pub looks : Looks old new

-- What a stop leaves of main, and of the sink that had these bytes before: nothing is seen of the call, or the command waits in it, and a
-- front of what was still to be told is shown.
pub data OneOfStep (does : Course → Meaning Did) (kept rows : Cat) (x : Command) (call : Call) (undo : List Call) (shown main sink : Text) : Type 0 where
  unseen : StandsFor main kept → sink ≡ shown → OneOfStep does kept rows x call undo shown main sink
  in_call : (c : Cat) → IsNoted rows x call undo c → WaitsAt does (place_by rows x) call → StandsFor main c → AddsPart x.untold shown sink
      → OneOfStep does kept rows x call undo shown main sink

-- what it leaves of main alone: what was there, or the catalogue that notes the command
pub data LeavesMain (kept rows : Cat) (x : Command) (call : Call) (undo : List Call) (main : Text) : Type 0 where
  left_so : StandsFor main kept → LeavesMain kept rows x call undo main
  noted_so : (c : Cat) → IsNoted rows x call undo c → StandsFor main c → LeavesMain kept rows x call undo main

module _ {B : Type 0} (old new : World B) (kept : Cat) (rows : Journal) (x : Command) (call : Call) (undo : List Call) (y : Command) (after : Journal) where
  -- ---- how it ended

  -- main and the sink were not called: main has the catalogue that it had, no other command is pending in memory, and what the call told is
  -- behind what was still to be told
  pub record StaysAway (marks : List Mark) : Type 0 where
    pub main : IsStill old.main new.main
    pub sink : IsStill old.sink new.sink
    pub held : IsHeld kept new.main after
    pub pending : after.cat.pending ≡ rows.cat.pending
    pub numbers : after.cat.numbers ≡ rows.cat.numbers
    pub untold : y.untold ≡ x.untold ++ lines_of x.number marks

  -- it was noted where it waits, and all that was still to be told was: main has the catalogue that notes it, and in memory it is pending so
  pub record WasNoted (does : Course → Meaning Did) (marks : List Mark) : Type 0 where
    pub cat : Cat
    pub noted : IsNoted rows.cat x call undo cat
    pub waits : WaitsAt does (place_by rows.cat x) call
    pub pending : after.cat.pending ≡ Some (noted_in x call undo)
    pub numbers : after.cat.numbers ≡ cat.numbers
    pub held : IsHeld cat new.main after
    pub settled : IsTrue old.main.tells → IsSettled new.main
    pub sink : IsTrue old.sink.tells → new.sink.holds ≡ old.sink.holds ++ x.untold
    pub sink_settled : IsTrue old.sink.tells → IsSettled old.sink → IsSettled new.sink
    pub untold : y.untold ≡ lines_of x.number marks

  -- It was done, or failed so, with these marks, which have their cause.
  pub record IsStepDone (does : Course → Meaning Did) (ran : Result Unit Failure) : Type 0 where
    pub did : Does does ran (place_by rows.cat x) (place_by after.cat y)
    -- of the command only marks, and what is still to be told, are others
    pub marks : List Mark
    pub beside : KeepsBeside rows.cat after.cat (length marks)
    pub marks_are : y.marks ≡ x.marks ++ marks
    pub rest : y ≡ record x { marks = y.marks; untold = y.untold }
    -- they may be kept
    pub spelled : IsTrue (list_all (λ m. all_fit (mark_parts m)) marks)
    pub is_kept : StaysAway marks ⊎ WasNoted does marks
    pub told_of : AllByRecursion (IsToldOf (IsKnownBy old rows.cat) (length old.stores)) marks
    pub caused : AreCaused old new marks
    pub gave : IsTrue new.ambient.tells → Gave marks old.ambient new.ambient
    -- files are whole by the rows behind it, where they were so by those before it
    pub whole : ((t : ℕ) → old.moments < t → AreWhole old.plugin t kept old.stores) → ((t : ℕ) → old.moments < t → AreWhole old.plugin t rows.cat old.stores)
        → IsTrue old.main.tells → IsSettled old.main → (t : ℕ) → new.moments < t → AreWhole new.plugin t after.cat new.stores

  -- what has run out: the numbers of vault files, before a device was asked, or the room behind the log
  abbrev pub IsWornSo : Ending → Type 0
  IsWornSo (ending.Worn wear.Vaults place) = (place ≡ rows.cat.numbers.next_vault) × (last_vault < place) × IsStill old.main new.main × IsStill old.sink new.sink
  IsWornSo (ending.Worn wear.Log place) = (2 ^ 62 < place) × (IsTrue old.main.tells → ClosesAt new.main.holds place)
  IsWornSo (ending.Worn wear.Runs place) = ⊥
  IsWornSo other = Unit {0}

  -- how it ended
  abbrev pub StepEnds : (Course → Meaning Did) → Result (Result Unit Failure) Ending → Type 0
  StepEnds does (Ok ran) = IsStepDone does ran
  StepEnds does (Err e) = IsWornSo e

  -- A call of a command, from the rows in memory on, where main has this catalogue.
  pub record IsStep (does : Course → Meaning Did) (result : Result (Result Unit Failure) Ending) : Type 0 where
    pub ends : StepEnds does result
    -- what the ambient gave, where no mark of it is told
    pub asked : IsTrue new.ambient.tells → Gave [] old.ambient new.ambient
    -- no more is shown than what was still to be told
    pub shown : IsTrue old.sink.tells → AddsPart x.untold old.sink.holds new.sink.holds
    pub main : IsTrue old.main.tells → IsSettled old.main → (t : ℕ) (main : Text) → old.moments < t → new.main.left t main
        → LeavesMain kept rows.cat x call undo main
    pub images : IsTrue old.main.tells → IsTrue old.sink.tells → IsSettled old.main → IsSettled old.sink → (t : ℕ) (main sink : Text)
        → old.moments < t → new.main.left t main → new.sink.left t sink → OneOfStep does kept rows.cat x call undo old.sink.holds main sink
    pub whole : KeepBothWhole old.plugin old.moments kept rows.cat old.main new.main old.stores new.stores
