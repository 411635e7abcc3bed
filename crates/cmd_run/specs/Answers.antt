-- What is put on the sink.
use Rattle.std.specs.Prelude.{◌≡◌, ℕ, ◌+◌, ◌≤◌, List, [], ◌++◌, Result, Ok, Err, IsTrue, flat_map, ⊤}
use Rattle.grid_outside.specs.Device.{Acts, IsSettled}
use Rattle.grid_outside.specs.Fault.{Rose}
use Rattle.grid_outside.specs.Sink.{SinkState, AddsPart}
use Rattle.grid_model.specs.Names.{Text}
use Rattle.grid_model.specs.Replies.{row_line, end_line, rest_lines}
use Rattle.grid_model.specs.declared.replies.End.{End}
use Rattle.grid_model.specs.declared.replies.Reply.{Reply}
use Rattle.cmd_run.specs.declared.server.Ending.{Ending}
use Rattle.cmd_run.specs.declared.server.Ending.TheVariants.{Sink}

-- The text was put on the sink as the next moment after so many, in whole or in part.
pub record IsTextPut (text : Text) (from : ℕ) (old new : SinkState) : Type 0 where
  pub acts : Acts (from + 1) (AddsPart text) old new
  pub settled : IsTrue old.tells → IsSettled new
  pub later : old.faults ≤ new.faults

-- how that ended
abbrev pub PutEnds : Text → SinkState → SinkState → Result ⊤ Ending → Type 0
PutEnds text old new (Ok done) = IsTrue old.tells → new.holds ≡ old.holds ++ text
PutEnds text old new (Err Sink) = Rose old.faults new.faults
PutEnds text old new (Err other) = ⊥

-- rows, and an end behind them
abbrev pub shown_lines : ℕ → List (List Text) → End → Text
shown_lines n rows e = flat_map (row_line n) rows ++ end_line n e

-- a reply without marks that has nothing but a text, rows and its end
abbrev pub unmarked : Text → List (List Text) → End → Reply
unmarked shown rows e = record { marks = []; shown = shown; passed = []; rows = rows; end = e }

-- and its lines
abbrev pub said_lines : ℕ → Text → List (List Text) → End → Text
said_lines n shown rows e = rest_lines n (unmarked shown rows e)
