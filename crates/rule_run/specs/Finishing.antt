-- How a command whose calls were made is ended: one last commit, and the rest of its reply.
use Rattle.std.specs.Prelude.{◌≡◌, ◌⊎◌, ℕ, Bool, true, false, List, [], ◌∷◌, ◌++◌, None, Result, Ok, Err, IsTrue, ⊤}
use Rattle.grid_outside.specs.Device.{IsSettled}
use Rattle.grid_outside.specs.Disk.{DiskState}
use Rattle.grid_outside.specs.Sink.{SinkState}
use Rattle.grid_model.specs.Names.{Text}
use Rattle.grid_model.specs.Rows.{Cat}
use Rattle.grid_model.specs.Replies.{rest_lines}
use Rattle.grid_model.specs.declared.deltas.Delta.{Delta}
use Rattle.grid_model.specs.declared.deltas.Delta.TheVariants as delta
use Rattle.grid_model.specs.declared.deltas.Numbers.{Numbers}
use Rattle.grid_model.specs.declared.marks.Mark.{Mark}
use Rattle.grid_model.specs.declared.replies.End.{End}
use Rattle.grid_model.specs.declared.replies.Passed.{Passed}
use Rattle.grid_model.specs.declared.replies.Reply.{Reply}
use Rattle.grid_journal.specs.Journal.{Journal}
use Rattle.grid_deed.specs.Held.{IsHeld}
use Rattle.service_run.specs.Noting.{IsOutOfRoom, NoteLeaves}
use Rattle.service_run.specs.declared.command.Command.{Command}
use Rattle.service_run.specs.declared.ending.Ending.{Ending}

-- ---- what is kept

-- these rows, as the command of this number left them, and none is pending
abbrev pub ended : ℕ → Cat → Cat
ended n c = record c { numbers = record c.numbers { last = n }; pending = None }

-- the changes that lead there, where a command is pending or not, and these are the numbers behind them
abbrev pub end_deltas : Bool → Numbers → List Delta
end_deltas true numbers = delta.NoPending ∷ delta.Numbers numbers ∷ []
end_deltas false numbers = delta.Numbers numbers ∷ []

-- nothing is to be kept: no change is staged, no command is pending, and this one has no mark
pub record HasNothing (rows : Journal) (x : Command) : Type 0 where
  pub staged : rows.staged ≡ []
  pub pending : rows.cat.pending ≡ None
  pub marks : x.marks ≡ []

-- what main is to have behind it
abbrev pub IsLeft : ℕ → Journal → Command → Cat → Type 0
IsLeft n rows x left = (left ≡ ended n rows.cat) ⊎ (HasNothing rows x × (left ≡ rows.cat))

-- ---- what is told

-- the reply with these marks, these recoveries passed over, these rows and this end, which shows nothing
abbrev pub reply_of : List Mark → List Passed → List (List Text) → End → Reply
reply_of marks passed rows e = record { marks = marks; shown = []; passed = passed; rows = rows; end = e }

-- what follows its marks
abbrev pub rest_text : ℕ → List Passed → List (List Text) → End → Text
rest_text n passed rows e = rest_lines n (reply_of [] passed rows e)

-- ---- how it ended

module _ (main_old main_new : DiskState) (sink_old sink_new : SinkState) where
  -- main and memory have the catalogue, with nothing staged, and all of the text was told
  pub record IsDone (left : Cat) (text : Text) (new : Journal) : Type 0 where
    pub held : IsHeld left main_new new
    pub cat : new.cat ≡ left
    pub staged : new.staged ≡ []
    pub settled : IsTrue main_old.tells → IsSettled main_old → IsSettled main_new
    pub sink : IsTrue sink_old.tells → sink_new.holds ≡ sink_old.holds ++ text
    pub sink_settled : IsTrue sink_old.tells → IsSettled sink_old → IsSettled sink_new

  -- it was done, or room behind the log is all that may have run out
  abbrev pub FinishEnds : Cat → Text → Result ⊤ Ending → Journal → Type 0
  FinishEnds left text (Ok done) new = IsDone left text new
  FinishEnds left text (Err e) new = IsOutOfRoom main_old main_new sink_old sink_new e

  -- The rows were kept as the command of this number left them, where there was anything to keep, and then the text was told, or how far that
  -- came, from so many moments on, where main had this catalogue.
  pub record Finishes (kept : Cat) (from n : ℕ) (rows : Journal) (x : Command) (text : Text) (result : Result ⊤ Ending) (new : Journal) : Type 0 where
    pub left : Cat
    pub is_left : IsLeft n rows x left
    pub leaves : NoteLeaves main_old main_new sink_old sink_new kept left from text
    pub ends : FinishEnds left text result new
