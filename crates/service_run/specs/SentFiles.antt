-- A file that is sent for a command, as the deed of its get: what is shown of it, and its mark.
use Rattle.std.specs.Prelude.{◌≡◌, ℕ, ◌<◌, true, List, [], ◌∷◌, ◌++◌, Option, Some, None, Result, Ok, Err, IsTrue, length, ⊤}
use Rattle.grid_outside.specs.Device.{IsSettled}
use Rattle.grid_outside.specs.Sink.{AddsPart}
use Rattle.grid_model.specs.DataLines.{data_lines}
use Rattle.grid_model.specs.Deeds.{Deed, fits, sending}
use Rattle.grid_model.specs.Deltas.{all_fit, mark as mark_parts}
use Rattle.grid_model.specs.Grid.{Grid}
use Rattle.grid_model.specs.Names.{Text}
use Rattle.grid_model.specs.Replies.{mark_line}
use Rattle.grid_model.specs.ReplyTexts.{SendsBytes}
use Rattle.grid_model.specs.Rows.{Cat}
use Rattle.grid_model.specs.declared.marks.BadReplica.{BadReplica}
use Rattle.grid_model.specs.declared.marks.Mark.{Mark}
use Rattle.grid_model.specs.declared.marks.Mark.TheVariants as mark
use Rattle.grid_model.specs.declared.plans.OldFile.{OldFile}
use Rattle.grid_model.specs.declared.refusal.Failure.{Failure}
use Rattle.grid_model.specs.declared.refusal.Failure.TheVariants as failure
use Rattle.grid_model.specs.declared.refusal.Refusal.TheVariants as refusal
use Rattle.grid_deed.specs.Safe.{AreWhole}
use Rattle.grid_headline.specs.Causes.{AreCaused}
use Rattle.grid_headline.specs.Worlds.{World}
use Rattle.chain_core.specs.Answers.{failure_in}
use Rattle.run_laws.specs.Steps.{Gave, IsToldOf}
use Rattle.service_run.specs.Steps.{IsKnownBy, IsStill}
use Rattle.service_run.specs.declared.command.Command.{Command}
use Rattle.service_run.specs.declared.ending.Ending.{Ending}
use Rattle.service_run.specs.declared.ending.Ending.TheVariants as ending

-- the deed that sends the file, which leaves these grids
abbrev pub sending_of : OldFile → (ℕ → ℕ → List BadReplica → Grid) → Deed
sending_of file ran = record { size = file.size; digest = file.digest; ran = ran; touch = sending file.slot }

-- how it fails by its mark, if it does
abbrev pub failed_by : OldFile → Mark → Option Failure
failed_by file (mark.Ran word now bad) = None
failed_by file (mark.Fault slot parts) = Some (failure.Refused (refusal.Fault slot))
failed_by file (mark.Bad slot len found parts) = Some (failure.Refused (refusal.Damaged slot file.size file.digest len found))
failed_by file mark.Stop = Some failure.Stopped

module _ {B : Type 0} (old new : World B) (rows : Cat) (file : OldFile) (x y : Command) where
  -- It was sent as the mark tells, which the command has, and which is still to be told.
  pub record IsSentSo (m : Mark) (bytes : Text) (ran : Result ⊤ Failure) : Type 0 where
    pub failure : failure_in ran ≡ failed_by file m
    pub command : y ≡ record x { marks = x.marks ++ m ∷ []; untold = x.untold ++ mark_line x.number m }
    pub spelled : IsTrue (all_fit (mark_parts m))
    pub gave : IsTrue new.ambient.tells → Gave (m ∷ []) old.ambient new.ambient
    pub sink : IsTrue old.sink.tells → new.sink.holds ≡ old.sink.holds ++ data_lines x.number bytes
    pub settled : IsTrue old.sink.tells → IsSettled old.sink → IsSettled new.sink

  -- how it ended: the sink failed, or there was no memory
  abbrev pub SendEnds : Mark → Text → Result (Result ⊤ Failure) Ending → Type 0
  SendEnds m bytes (Ok ran) = IsSentSo m bytes ran
  SendEnds m bytes (Err (ending.Worn what place)) = ⊥
  SendEnds m bytes (Err ending.Disk) = ⊥
  SendEnds m bytes (Err e) = Unit {0}

  -- The file, which is that of a good replica in these rows, was sent, or how far that came: then this is the mark that it would have had, by the
  -- bytes that the store holds.
  pub record SendsFile (result : Result (Result ⊤ Failure) Ending) : Type 0 where
    pub its_mark : Mark
    pub bytes : Text
    pub its_mark_fits : (ran : ℕ → ℕ → List BadReplica → Grid) → fits (sending_of file ran) its_mark ≡ true
    pub sends : (before : ℕ) → SendsBytes (IsKnownBy old rows) (record { size = file.size; digest = file.digest; before = before }) its_mark bytes
    pub told_of : IsToldOf (IsKnownBy old rows) (length old.stores) its_mark
    pub caused : AreCaused old new (its_mark ∷ [])
    pub ends : SendEnds its_mark bytes result
    -- what the ambient gave, where no mark of it is told
    pub asked : IsTrue new.ambient.tells → Gave [] old.ambient new.ambient
    -- main was not called, and of the sink only lines of data are shown
    pub main : IsStill old.main new.main
    pub shown : IsTrue old.sink.tells → AddsPart (data_lines x.number bytes) old.sink.holds new.sink.holds
    pub images : IsTrue old.sink.tells → IsSettled old.sink → (t : ℕ) (sink : Text) → old.moments < t → new.sink.left t sink
        → AddsPart (data_lines x.number bytes) old.sink.holds sink
    -- files stay whole
    pub whole : (t : ℕ) (c : Cat) → AreWhole old.plugin t c old.stores → AreWhole new.plugin t c new.stores
