-- The text that tells the marks of a request, by what it sends.
use Rattle.std.specs.Prelude.{◌≡◌, ℕ, List, ◌∷◌, ◌++◌, Option, Some, None, length}
use Rattle.grid_model.specs.DataLines.{data_lines}
use Rattle.grid_model.specs.Names.{Text}
use Rattle.grid_model.specs.ReplyTexts.{SendsBytes}
use Rattle.grid_model.specs.Working.{Sent}
use Rattle.grid_model.specs.declared.marks.Mark.{Mark}
use Rattle.rule_run.specs.Asked.{text_with}
use Rattle.service_run.specs.Steps.{lines_of}

-- Nothing is sent, and the text is the lines of the marks; or bytes were sent in front of one of these marks, which its text has there.
pub data TellsSo (known : ℕ → Type 0) (n : ℕ) (text_of : List Mark → Text) (sent : Option Sent) (taken : List Mark) : Type 0 where
  tells_lines : sent ≡ None → text_of ≡ lines_of n → TellsSo known n text_of sent taken
  tells_data : (s : Sent) (front : List Mark) (m : Mark) (back : List Mark) (bytes : Text) → sent ≡ Some s → taken ≡ front ++ m ∷ back
      → length front ≡ s.before → SendsBytes known s m bytes → text_of ≡ text_with n s.before (data_lines n bytes) → TellsSo known n text_of sent taken
