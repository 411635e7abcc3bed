-- Which texts are whole replies to one request. The format is this project's own.
use Rattle.std.specs.Prelude.{◌≡◌, ℕ, ◌^◌, ◌<◌, List, [], ◌∷◌, ◌++◌, IsTrue, FitsSigned}
use Rattle.std.specs.Int.{w64}
use Rattle.grid_model.specs.Names.{Text}
use Rattle.grid_model.specs.Digests.{IsDigest}
use Rattle.grid_model.specs.DataLines.{data_lines}
use Rattle.grid_model.specs.Replies.{mark_line, rest_lines}
use Rattle.grid_model.specs.Writable.{is_writable}
use Rattle.grid_model.specs.declared.marks.BadReplica.{BadReplica}
use Rattle.grid_model.specs.declared.marks.Mark.{Mark}
use Rattle.grid_model.specs.declared.marks.Mark.TheVariants as mark
use Rattle.grid_model.specs.declared.refusal.Refusal.{Refusal}
use Rattle.grid_model.specs.declared.refusal.Refusal.TheVariants as refusal
use Rattle.grid_model.specs.declared.refusal.Failure.{Failure}
use Rattle.grid_model.specs.declared.refusal.Failure.TheVariants as failure
use Rattle.grid_model.specs.declared.replies.End.{End}
use Rattle.grid_model.specs.declared.replies.End.TheVariants as end
use Rattle.grid_model.specs.declared.replies.Reply.{Reply}

-- the fields of a refusal are within their types
abbrev pub FitsRefusal : Refusal → Type 0
FitsRefusal (refusal.Syntax place) = place < 2 ^ 64
FitsRefusal (refusal.BadWord index) = index < 2 ^ 64
FitsRefusal (refusal.BadPath place) = place < 2 ^ 64
FitsRefusal (refusal.BadName place) = place < 2 ^ 64
FitsRefusal (refusal.Truncated have want) = (have < 2 ^ 64) × (want < 2 ^ 64)
FitsRefusal (refusal.TooLarge limit) = limit < 2 ^ 64
FitsRefusal (refusal.TooMany what limit) = limit < 2 ^ 64
FitsRefusal (refusal.BadTriple which) = which < 2 ^ 64
FitsRefusal (refusal.NoSlot slot) = slot < 2 ^ 64
FitsRefusal (refusal.BadRule place cause) = place < 2 ^ 64
FitsRefusal (refusal.BadQuery place) = place < 2 ^ 64
FitsRefusal (refusal.Fault slot) = slot < 2 ^ 8
FitsRefusal (refusal.Damaged slot size digest len found) = (slot < 2 ^ 8) × (size < 2 ^ 64) × IsDigest digest × (len < 2 ^ 64) × IsDigest found
FitsRefusal _ = Unit {0}

-- the fields of a failure are within their types
abbrev pub FitsFailure : Failure → Type 0
FitsFailure (failure.Refused r) = FitsRefusal r
FitsFailure (failure.Code n) = FitsSigned w64 n
FitsFailure _ = Unit {0}

-- the fields of an end are within their types
abbrev pub FitsEnd : End → Type 0
FitsEnd (end.Refused r) = FitsRefusal r
FitsEnd (end.PreFailed f) = FitsFailure f
FitsEnd (end.PostFailed f) = FitsFailure f
FitsEnd (end.Failed f) = FitsFailure f
FitsEnd _ = Unit {0}

-- the fields of each bad replica are within their types
abbrev pub FitBad : List BadReplica → Type 0
FitBad [] = Unit {0}
FitBad (b ∷ bs) = (b.number < 2 ^ 32) × (b.len < 2 ^ 64) × IsDigest b.found × FitBad bs

-- the fields of a mark are within their types
abbrev pub FitsMark : Mark → Type 0
FitsMark (mark.Ran word now bad) = (word < 2 ^ 64) × (now < 2 ^ 64) × FitBad bad
FitsMark (mark.Fault slot sent) = (slot < 2 ^ 8) × (sent < 2 ^ 64)
FitsMark (mark.Bad slot len found sent) = (slot < 2 ^ 8) × (len < 2 ^ 64) × IsDigest found × (sent < 2 ^ 64)
FitsMark mark.Stop = Unit {0}

-- The lines of marks, in order. The bytes of a get may stand as data lines before its mark.
pub data SpellsMarks (n : ℕ) : Text → List Mark → Type 0 where
  no_marks : SpellsMarks n [] []
  next_mark : {text after : Text} {m : Mark} {ms : List Mark} (bytes : List ℕ) → text ≡ data_lines n bytes ++ mark_line n m ++ after → FitsMark m
      → SpellsMarks n after ms → SpellsMarks n text (m ∷ ms)

-- The text is the reply to the request of this number, with any data lines before its marks. Data lines that no mark
-- follows are what is shown.
pub record SpellsReply (text : Text) (read : ℕ × Reply) : Type 0 where
  pub number_fits : read.0 < 2 ^ 64
  pub front : Text
  pub marks : SpellsMarks read.0 front read.1.marks
  pub text_is : text ≡ front ++ rest_lines read.0 read.1
  pub writable : IsTrue (is_writable read.1)
  pub end_fits : FitsEnd read.1.end
