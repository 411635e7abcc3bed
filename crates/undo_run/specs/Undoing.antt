-- What the recoveries of a stopped command did at the opening of a run, and what a stop while they run leaves.
use Rattle.std.specs.Prelude.{◌≡◌, ℕ, ◌+◌, ◌^◌, ◌<◌, List, [], ◌∷◌, ◌++◌, Some, Result, Ok, Err, IsTrue, ⊤, length}
use Rattle.std.specs.List.{AllByRecursion}
use Rattle.grid_outside.specs.Device.{IsSettled}
use Rattle.grid_outside.specs.Sink.{AddsPart}
use Rattle.grid_outside.specs.declared.outside.Wear.TheVariants as wear
use Rattle.grid_model.specs.Names.{Text}
use Rattle.grid_model.specs.Rows.{Cat}
use Rattle.grid_model.specs.RuleText.{Rule}
use Rattle.grid_model.specs.RowGrids.{grid_of}
use Rattle.grid_model.specs.declared.deltas.Pending.{Pending}
use Rattle.grid_model.specs.declared.marks.Mark.{Mark}
use Rattle.grid_model.specs.declared.marks.Mark.TheVariants.{Stop}
use Rattle.grid_journal.specs.Journal.{Journal, ClosesAt}
use Rattle.grid_journal.specs.Stands.{StandsFor}
use Rattle.grid_deed.specs.Held.{IsHeld}
use Rattle.grid_deed.specs.Safe.{AreWhole, StayWhole}
use Rattle.grid_headline.specs.Causes.{AreCaused}
use Rattle.grid_headline.specs.Files.{KeepsNamed, NamesCall}
use Rattle.grid_headline.specs.Numbers.{KeepsNumbers, last_vault}
use Rattle.grid_headline.specs.Served.{joined_texts, report_front}
use Rattle.grid_headline.specs.Stops.{AreFirst}
use Rattle.grid_headline.specs.Worlds.{World}
use Rattle.count_laws.specs.GivenNumbers.{GivesFew}
use Rattle.run_laws.specs.Handled.{IsUnbegun}
use Rattle.run_laws.specs.Steps.{Gave, IsToldOf}
use Rattle.run_laws.specs.Undone.{Undone}
use Rattle.service_run.specs.Steps.{IsKnownBy, lines_of}
use Rattle.service_run.specs.declared.command.Command.{Command}
use Rattle.service_run.specs.declared.ending.Ending.{Ending}
use Rattle.service_run.specs.declared.ending.Ending.TheVariants as ending
use Rattle.call_laws.specs.Amid.{WereAllWhole}

-- the command that was stopped, as its recoveries go on: behind the kept marks there is the `Stop`, and all that is told
abbrev pub stopped_command : Pending → Command
stopped_command p = record { run = p.run; number = p.number; user = p.user; line = p.line; marks = p.marks ++ Stop ∷ []; passed = p.passed; untold = [] }

-- what is told before any recovery: the first lines of the report, up to that of the `Stop`
abbrev pub told_before : Pending → Text
told_before p = joined_texts (report_front (Some p) [])

-- the catalogue has lost track of no file, and its pending command has its call
pub record IsOnTheWay (found c : Cat) : Type 0 where
  pub named : KeepsNamed found c
  pub call : NamesCall found.pending → NamesCall c.pending

-- What a stop leaves of main, and of the sink that had these bytes before the recoveries: the run is not begun, and a front of the lines of
-- their marks is told.
pub record OneOfUndoing (found : Cat) (p : Pending) (u : Undone found) (shown main sink : Text) : Type 0 where
  pub cat : Cat
  pub stands : StandsFor main cat
  pub part : AddsPart (lines_of p.number u.report) shown sink
  pub unbegun : IsUnbegun found u cat (length (told_before p) + part.count)

module _ {B : Type 0} (old new : World B) (found : Cat) (p : Pending) where
  -- All recoveries were run. Main has this catalogue, and memory the rows that they left.
  pub record IsUndone (u : Undone found) (taken : List Mark) (y : Command) (after : Journal) (kept : Cat) : Type 0 where
    pub all : taken ≡ u.report
    pub command : y ≡ record (stopped_command p) { marks = p.marks ++ Stop ∷ taken; passed = y.passed; untold = y.untold }
    pub passed : y.passed ≡ u.opened.passed
    pub grid : grid_of after.cat ≡ u.opened.grid
    pub run : after.cat.numbers.run ≡ found.numbers.run
    pub rules : after.cat.rules ≡ found.rules
    pub stores : after.cat.stores ≡ found.stores
    pub keeps : KeepsNumbers found after.cat
    pub few : GivesFew found after.cat (length taken)
    pub named : KeepsNamed found after.cat
    pub held : IsHeld kept new.main after
    pub settled : IsTrue old.main.tells → IsSettled old.main → IsSettled new.main
    pub sink_settled : IsTrue old.sink.tells → IsSettled old.sink → IsSettled new.sink
    -- what is still to be told is the rest of the lines of their marks
    pub untold : IsTrue old.sink.tells → new.sink.holds ++ y.untold ≡ old.sink.holds ++ lines_of p.number taken
    pub whole_now : WereAllWhole old found → IsTrue old.main.tells → IsSettled old.main → (t : ℕ) → new.moments < t → AreWhole new.plugin t after.cat new.stores

  -- what has run out: the numbers of vault files, or the room behind the log
  abbrev pub IsOut : Ending → Type 0
  IsOut (ending.Worn wear.Vaults place) =
      (last_vault < place) × (IsTrue old.main.tells → (c : Cat) × StandsFor new.main.holds c × (c.numbers.next_vault ≡ place))
  IsOut (ending.Worn wear.Log place) = (2 ^ 62 < place) × (IsTrue old.main.tells → ClosesAt new.main.holds place)
  IsOut (ending.Worn wear.Runs place) = ⊥
  IsOut other = Unit {0}

  -- how it ended
  abbrev pub UndoEnds : Undone found → List Mark → Result ⊤ Ending → Command → Journal → Type 0
  UndoEnds u taken (Ok done) y after = (kept : Cat) × IsUndone u taken y after kept
  UndoEnds u taken (Err e) y after = IsOut e

  -- The recoveries of what was pending were run, or how far that came: what they took is the first of what they would have taken. There are
  -- these rules.
  pub record Undoes (rules : List Rule) (result : Result ⊤ Ending) (y : Command) (after : Journal) : Type 0 where
    pub undone : Undone found
    pub rules_are : undone.rules ≡ rules
    pub taken : List Mark
    pub first : AreFirst taken undone.report
    pub told_of : IsTrue old.main.tells → AllByRecursion (IsToldOf (IsKnownBy old found) (length old.stores)) undone.report
    pub caused : AreCaused old new undone.report
    pub gave : IsTrue new.ambient.tells → Gave taken old.ambient new.ambient
    pub shown : IsTrue old.sink.tells → AddsPart (lines_of p.number taken) old.sink.holds new.sink.holds
    pub main : IsTrue old.main.tells → IsSettled old.main → (t : ℕ) (main : Text) (c : Cat) → old.moments < t → new.main.left t main → StandsFor main c
        → IsOnTheWay found c
    pub whole : WereAllWhole old found → IsTrue old.main.tells → IsSettled old.main → StayWhole new.plugin old.moments new.main new.stores
    pub images : IsTrue old.main.tells → IsTrue old.sink.tells → IsSettled old.main → IsSettled old.sink → (t : ℕ) (main sink : Text)
        → old.moments < t → new.main.left t main → new.sink.left t sink → OneOfUndoing found p undone old.sink.holds main sink
    pub ends : UndoEnds undone taken result y after
