-- A call that is noted before its deed begins, while all that was still to be told is told.
use Rattle.std.specs.Prelude.{◌≡◌, ℕ, ◌<◌, List, [], Result, Ok, Err, IsTrue, ⊤}
use Rattle.grid_outside.specs.Device.{IsSettled}
use Rattle.grid_model.specs.Meanings.{Meaning}
use Rattle.grid_model.specs.Doing.{Course, Did}
use Rattle.grid_model.specs.RowGrids.{grid_of}
use Rattle.grid_model.specs.Rows.{Cat}
use Rattle.grid_model.specs.declared.calls.Call.{Call}
use Rattle.grid_journal.specs.Journal.{Journal}
use Rattle.grid_deed.specs.Safe.{AreWhole}
use Rattle.grid_headline.specs.Worlds.{World}
use Rattle.service_run.specs.Commands.{KeepsBeside}
use Rattle.service_run.specs.Steps.{IsStep, IsWornSo, WasNoted}
use Rattle.service_run.specs.declared.command.Command.{Command}
use Rattle.service_run.specs.declared.ending.Ending.{Ending}
use Rattle.service_run.specs.declared.ending.Ending.TheVariants as ending

module _ {B : Type 0} (old new : World B) (kept : Cat) (rows : Journal) (x : Command) (call : Call) (undo : List Call) (y : Command) (after : Journal)
    (does : Course → Meaning Did) where
  -- It was noted: nothing is still to be told, and of rows only the pending command, and of the command only what is to be told, are others.
  -- No number was given.
  pub record IsNotedOnly : Type 0 where
    pub noted : WasNoted old new kept rows x call undo y after does []
    pub command : y ≡ record x { untold = [] }
    pub beside : KeepsBeside rows.cat after.cat 0
    pub grid : grid_of after.cat ≡ grid_of rows.cat
    -- files are whole by the rows behind it, where they were so by those before it
    pub whole : ((t : ℕ) → old.moments < t → AreWhole old.plugin t kept old.stores) → ((t : ℕ) → old.moments < t → AreWhole old.plugin t rows.cat old.stores)
        → IsTrue old.main.tells → IsSettled old.main → (t : ℕ) → new.moments < t → AreWhole new.plugin t after.cat new.stores

  -- how it ended
  abbrev pub NoteCallEnds : Result ⊤ Ending → Type 0
  NoteCallEnds (Ok done) = IsNotedOnly
  NoteCallEnds (Err e) = IsWornSo old new kept rows x call undo y after e

  -- It was noted, or how far that came: what is left of it at each moment is as of a step that is cut short there.
  pub record NotesCall (result : Result ⊤ Ending) : Type 0 where
    pub ends : NoteCallEnds result
    pub step : IsStep old new kept rows x call undo y after does (Err ending.Memory)
