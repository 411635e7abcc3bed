-- Marks, as they stand behind `mark`.
use Rattle.std.specs.Prelude.{◌≡◌, ℕ, List, [], ◌∷◌, ◌++◌, IsTrue, flat_map}
use Rattle.grid_model.specs.Names.{Text}
use Rattle.grid_model.specs.Printing.{spaced}
use Rattle.grid_model.specs.Replies.{bad_words, mark_words}
use Rattle.grid_model.specs.ReplySpelling.{FitBad, FitsMark}
use Rattle.grid_model.specs.declared.marks.BadReplica.{BadReplica}
use Rattle.grid_model.specs.declared.marks.Mark.{Mark}
use Rattle.grid_model.specs.declared.marks.Mark.TheVariants as mark
use Rattle.reply_fields.specs.Fronts.{Then}
use Rattle.reply_fields.specs.Spelled.{IsNumber, is_among_bytes}
use Rattle.reply_reader.specs.Failures.{most_u64}
use Rattle.reply_reader.specs.Fields.{IsDigestField, IsField}
use Rattle.reply_reader.specs.Images.{Image}

-- a mark, and a newline
pub record IsMark (text : Text) (read : Mark) : Type 0 where
  pub fits : FitsMark read
  pub is : text ≡ spaced (mark_words read) ++ 0x0A ∷ []

-- a bad replica, and a space or a newline
pub record IsBadReplica (text : Text) (read : BadReplica × ℕ) : Type 0 where
  pub fits : FitBad (read.0 ∷ [])
  pub ends_is : IsTrue (is_among_bytes (0x20 ∷ 0x0A ∷ []) read.1)
  pub is : text ≡ spaced (bad_words read.0) ++ read.1 ∷ []

-- The bad replicas that follow this byte, which is a space before each of them, and a newline behind the last.
pub record IsBadList (before : ℕ) (text : Text) (bad : List BadReplica) : Type 0 where
  pub fits : FitBad bad
  pub is : before ∷ text ≡ flat_map (λ b. 0x20 ∷ spaced (bad_words b)) bad ++ 0x0A ∷ []

-- the fields of each mark, and a newline
abbrev pub IsRan : Text → Mark → Type 0
IsRan = Then (IsField most_u64 0x20) (λ word. Then (IsNumber 0 most_u64 (0x20 ∷ 0x0A ∷ [])) (λ now. Image (λ bad. mark.Ran word now.0 bad) (IsBadList now.1)))

abbrev pub IsFault : Text → Mark → Type 0
IsFault = Then (IsField 255 0x20) (λ slot. Image (λ sent. mark.Fault slot sent) (IsField most_u64 0x0A))

abbrev pub IsBadMark : Text → Mark → Type 0
IsBadMark =
    Then (IsField 255 0x20) (λ slot.
    Then (IsField most_u64 0x20) (λ len.
    Then (IsDigestField 0x20) (λ found.
    Image (λ sent. mark.Bad slot len found sent) (IsField most_u64 0x0A))))
