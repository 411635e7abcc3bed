-- Replies, as their lines give them one after another.
use Rattle.std.proofs.Common.{◌≡◌, List, [], ◌∷◌, ◌++◌, refl, sym, ◌∙◌, append_assoc}
use Rattle.std.specs.Prelude.{Option, Some, None}
use Rattle.std.proofs.lemmas.List.{append-nil}
use Rattle.grid_model.specs.Names.{Text}
use Rattle.grid_model.specs.declared.marks.Mark.{Mark}
use Rattle.grid_model.specs.declared.replies.End.{End}
use Rattle.grid_model.specs.declared.replies.Reply.{Reply}
use Rattle.reply_fields.proofs.Codes.{IsCode}
use Rattle.reply_reader.specs.Lines.{IsReplyLine, phase_behind}
use Rattle.reply_reader.specs.Parts.{with_end, with_line}
use Rattle.reply_reader.specs.declared.lines.Line.{Line}
use Rattle.reply_reader.specs.declared.lines.Line.TheVariants as line
use Rattle.reply_reader.specs.declared.lines.Phase.{Phase}
use Rattle.reply_reader.proofs.LineReading.{IsCode-line}
use Rattle.reply_reader.proofs.Runs.{Run}

-- a line is to come in this phase, or the reply is over
pub data State : Type 0 where
  reading : Phase → State
  over : End → State

abbrev pub LineAt : Text → State → Text → Line → Type 0
LineAt first (reading p) = IsReplyLine first p
LineAt first (over e) = λ text l. ⊥

abbrev pub next_state : State → Line → State
next_state (reading p) (line.Data bytes) = reading (phase_behind (line.Data bytes))
next_state (reading p) (line.Mark m) = reading (phase_behind (line.Mark m))
next_state (reading p) (line.Passed q) = reading (phase_behind (line.Passed q))
next_state (reading p) (line.Row ws) = reading (phase_behind (line.Row ws))
next_state (reading p) (line.End e) = over e
next_state (over e) l = over e

-- what is shown of bytes before the rest of a reply: nothing of them where a mark follows
abbrev pub shown_before : List Mark → Text → Text → Text
shown_before [] old new = old ++ new
shown_before (m ∷ ms) old new = new

abbrev pub line_before : Line → Reply → Reply
line_before (line.Data bytes) r = record { marks = r.marks; shown = shown_before r.marks bytes r.shown; passed = r.passed; rows = r.rows; end = r.end }
line_before (line.Mark m) r = record { marks = m ∷ r.marks; shown = r.shown; passed = r.passed; rows = r.rows; end = r.end }
line_before (line.Passed p) r = record { marks = r.marks; shown = r.shown; passed = p ∷ r.passed; rows = r.rows; end = r.end }
line_before (line.Row ws) r = record { marks = r.marks; shown = r.shown; passed = r.passed; rows = ws ∷ r.rows; end = r.end }
line_before (line.End e) r = r

abbrev pub end_alone : End → Reply
end_alone e = record { marks = []; shown = []; passed = []; rows = []; end = e }

abbrev pub over_at : State → Option Reply
over_at (reading p) = None
over_at (over e) = Some (end_alone e)

abbrev pub Lines : Text → State → Text → Reply → Type 0
Lines first = Run (LineAt first) next_state line_before over_at

pub codes_at : (first : Text) (s : State) → IsCode (LineAt first s)
codes_at first (reading p) = IsCode-line first p
codes_at first (over e) = record { only = λ s t u v a b e p q. absurd p }

-- ---- what was read so far, before the rest

abbrev pub before_rest : Reply → Reply → Reply
before_rest front r = record { marks = front.marks ++ r.marks; shown = shown_before r.marks front.shown r.shown; passed = front.passed ++ r.passed; rows = front.rows ++ r.rows; end = r.end }

pub shown_twice : (ms : List Mark) (a b c : Text) → shown_before ms a (shown_before ms b c) ≡ shown_before ms (a ++ b) c
shown_twice [] a b c = sym (append_assoc a b c)
shown_twice (m ∷ ms) a b c = refl

pub shown_none : (ms : List Mark) (c : Text) → shown_before ms [] c ≡ c
shown_none [] c = refl
shown_none (m ∷ ms) c = refl

pub before_more : (front : Reply) (l : Line) (r : Reply) → before_rest front (line_before l r) ≡ before_rest (with_line front l) r
before_more front (line.Data bytes) r = (λ i. record { marks = front.marks ++ r.marks; shown = shown_twice r.marks front.shown bytes r.shown i; passed = front.passed ++ r.passed; rows = front.rows ++ r.rows; end = r.end })
before_more front (line.Mark m) r =
    (λ i. record { marks = sym (append_assoc front.marks (m ∷ []) r.marks) i; shown = sym (shown_none r.marks r.shown) i; passed = front.passed ++ r.passed; rows = front.rows ++ r.rows; end = r.end })
before_more front (line.Passed p) r =
    (λ i. record { marks = front.marks ++ r.marks; shown = shown_before r.marks front.shown r.shown; passed = sym (append_assoc front.passed (p ∷ []) r.passed) i; rows = front.rows ++ r.rows; end = r.end })
before_more front (line.Row ws) r =
    (λ i. record { marks = front.marks ++ r.marks; shown = shown_before r.marks front.shown r.shown; passed = front.passed ++ r.passed; rows = sym (append_assoc front.rows (ws ∷ []) r.rows) i; end = r.end })
before_more front (line.End e) r = refl

pub before_end : (front : Reply) (e : End) → before_rest front (end_alone e) ≡ with_end front e
before_end front e = (λ i. record { marks = append-nil front.marks i; shown = append-nil front.shown i; passed = append-nil front.passed i; rows = append-nil front.rows i; end = e })

pub before_none : (front r : Reply) → front.marks ≡ [] → front.shown ≡ [] → front.passed ≡ [] → front.rows ≡ [] → before_rest front r ≡ r
before_none front r marks shown passed rows =
    (λ i. record { marks = marks i ++ r.marks; shown = shown_before r.marks (shown i) r.shown; passed = passed i ++ r.passed; rows = rows i ++ r.rows; end = r.end })
    ∙ (λ i. record { marks = r.marks; shown = shown_none r.marks r.shown i; passed = r.passed; rows = r.rows; end = r.end })
