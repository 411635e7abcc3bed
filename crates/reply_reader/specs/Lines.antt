-- The lines of a reply, one by one.
use Rattle.std.specs.Prelude.{◌≡◌, ℕ, ◌∷◌, [], ◌==◌, Bool, true, false, IsTrue, codes, length, if◌then◌else◌}
use Rattle.grid_model.specs.Names.{Text}
use Rattle.grid_model.specs.Limits.{part_size}
use Rattle.grid_model.specs.ReplySpelling.{SpellsReply}
use Rattle.grid_model.specs.declared.replies.End.TheVariants as end
use Rattle.grid_model.specs.declared.replies.Reply.{Reply}
use Rattle.reply_fields.specs.Counted.{IsDataPart}
use Rattle.reply_fields.specs.Fronts.{Then}
use Rattle.reply_fields.specs.Spelled.{IsNameOf}
use Rattle.reply_reader.specs.Ends.{IsErrorEnd}
use Rattle.reply_reader.specs.Images.{Image}
use Rattle.reply_reader.specs.MarkFields.{IsMark}
use Rattle.reply_reader.specs.WordFields.{IsPassed, IsWords}
use Rattle.reply_reader.specs.declared.lines.Kind.{Kind}
use Rattle.reply_reader.specs.declared.lines.Kind.TheVariants as kind
use Rattle.reply_reader.specs.declared.lines.Line.{Line}
use Rattle.reply_reader.specs.declared.lines.Line.TheVariants as line
use Rattle.reply_reader.specs.declared.lines.Phase.{Phase}
use Rattle.reply_reader.specs.declared.lines.Phase.TheVariants as phase

-- what tells the kind of a line, up to its fields
abbrev pub kind_name : Kind → Text
kind_name kind.Data = codes "data "
kind_name kind.Mark = codes "mark "
kind_name kind.Passed = codes "passed "
kind_name kind.Row = codes "row"
kind_name kind.Good = codes "ok"
kind_name kind.Error = codes "err "

-- Data lines stand where the last one was full, marks behind data lines, then recoveries, then rows. The end may come at any time.
abbrev pub may_come : Phase → Kind → Bool
may_come phase.Data k = true
may_come phase.Marks kind.Data = false
may_come phase.Marks k = true
may_come phase.Passed kind.Data = false
may_come phase.Passed kind.Mark = false
may_come phase.Passed k = true
may_come phase.Rows kind.Data = false
may_come phase.Rows kind.Mark = false
may_come phase.Rows kind.Passed = false
may_come phase.Rows k = true

-- how many kinds, in their order, may no longer come
abbrev pub skipped : Phase → ℕ
skipped phase.Data = 0
skipped phase.Marks = 1
skipped phase.Passed = 2
skipped phase.Rows = 3

-- a kind that may come in this phase
pub record IsKindIn (phase : Phase) (text : Text) (kind : Kind) : Type 0 where
  pub comes : IsTrue (may_come phase kind)
  pub is : text ≡ kind_name kind

-- the rest of a line of this kind
abbrev pub IsRest : Kind → Text → Line → Type 0
IsRest kind.Data = Image line.Data IsDataPart
IsRest kind.Mark = Image line.Mark IsMark
IsRest kind.Passed = Image line.Passed IsPassed
IsRest kind.Row = Image line.Row IsWords
IsRest kind.Good = Image (λ words. line.End (end.Done words)) IsWords
IsRest kind.Error = Image line.End IsErrorEnd

-- a line that begins with these bytes and may come in this phase
abbrev pub IsReplyLine : Text → Phase → Text → Line → Type 0
IsReplyLine first phase = Then (IsNameOf (first ∷ [])) (λ _. Then (IsKindIn phase) IsRest)

-- the phase behind a line
abbrev pub phase_behind : Line → Phase
phase_behind (line.Data bytes) = if length bytes == part_size then phase.Data else phase.Marks
phase_behind (line.Mark m) = phase.Data
phase_behind (line.Passed p) = phase.Passed
phase_behind (line.Row words) = phase.Rows
phase_behind (line.End e) = phase.Rows

-- the text is a reply to the request of this number
pub record IsReplyTo (number : ℕ) (text : Text) (reply : Reply) : Type 0 where
  pub spells : SpellsReply text (number, reply)
