-- Reading a reply line by line.
use Rattle.std.proofs.Common.{◌≡◌, ◌≢◌, ℕ, ◌^◌, ◌<◌, [], ◌∷◌, ◌++◌, Ok, Err, length, drop, refl, sym, ap, ◌∙◌, subst, arith, length-append}
use Rattle.std.specs.Prelude.{Result, decimal}
use Rattle.std.proofs.lemmas.List.{length-drop}
use Rattle.grid_model.specs.Names.{Text}
use Rattle.grid_model.specs.Places.{Begins}
use Rattle.grid_model.specs.Replies.{end_line}
use Rattle.grid_model.specs.declared.replies.End.{End}
use Rattle.grid_model.specs.declared.replies.End.TheVariants as end
use Rattle.grid_model.specs.declared.replies.Reply.{Reply}
use Rattle.reply_fields.specs.declared.error.ReplyError.{ReplyError}
use Rattle.reply_fields.specs.Fronts.{IsRead, ReadsFrom}
use Rattle.reply_reader.specs.Lines.{IsReplyLine, IsReplyTo, kind_name, phase_behind}
use Rattle.reply_reader.specs.Parts.{with_end, with_line}
use Rattle.reply_reader.specs.declared.lines.Line.{Line}
use Rattle.reply_reader.specs.declared.lines.Line.TheVariants as line
use Rattle.reply_reader.specs.declared.lines.Phase.{Phase}
use Rattle.reply_reader.specs.declared.lines.Phase.TheVariants as phase
use Rattle.reply_reader.proofs.Readings.{mapped, reads_as}
use Rattle.reply_reader.proofs.Assembling.{State, reading, over, LineAt, next_state, line_before, end_alone, over_at, Lines, codes_at, before_rest, before_more, before_end, before_none}
use Rattle.reply_reader.proofs.LineTexts.{start, cut_line}
use Rattle.reply_reader.proofs.ReplyLines.{reply_of_lines}
use Rattle.reply_reader.proofs.ReplyTexts.{lines_of, end_lines}
use Rattle.reply_reader.proofs.Runs.{stops, Leads, Leads-start, Leads-more, Leads-unread, Leads-end}

-- a line takes some bytes
pub line_forward : (n : ℕ) (p : Phase) (text : Text) (place to : ℕ) (l : Line) → IsRead (IsReplyLine (start n) p) text place l to → place < to
line_forward n p text place to l h =
    let c = cut_line n p h.front.spelled l h.front.spells in
    omega (arith, h.forward, h.within, ap length h.front.split, length-append h.front.spelled (drop to text), length-drop place text, length-drop to text, ap length c.is, length-append (start n) (kind_name c.kind ++ c.rest), length-append (decimal n) (0x20 ∷ []))

pub begins_lines : (n : ℕ) (s : State) → Begins (Lines (start n) s) []
begins_lines n (over e) = record { more = []; value = end_alone e; spells = stops refl refl }
begins_lines n (reading p) = record { more = end_line n end.Stopped; value = end_alone end.Stopped; spells = end_lines n p end.Stopped refl tt }

-- the lines up to this place were read, and these are the parts that they gave
pub record ReadLines (n : ℕ) (text : Text) (front : Reply) (p : Phase) (place : ℕ) : Type 0 where
  pub leads : Leads (LineAt (start n)) next_state line_before over_at (codes_at (start n)) (IsReplyTo n) (before_rest front) text 0 (reading p) place

pub ReadLines-start : (n : ℕ) (text : Text) (front : Reply) → n < 2 ^ 64 → front.marks ≡ [] → front.shown ≡ [] → front.passed ≡ [] → front.rows ≡ [] → ReadLines n text front phase.Data 0
ReadLines-start n text front small marks shown passed rows = record {
  leads = Leads-start (LineAt (start n)) next_state line_before over_at (codes_at (start n)) (IsReplyTo n) (before_rest front) text 0 (reading phase.Data) (omega arith)
      (λ r h. subst (ReadsFrom (IsReplyTo n) text 0) (same r) (as_reply r h));
}
  where
    as_reply : (r : Result (Reply × ℕ) ReplyError) → ReadsFrom (Lines (start n) (reading phase.Data)) text 0 r → ReadsFrom (IsReplyTo n) text 0 (mapped (λ x. x) r)
    as_reply = reads_as (Lines (start n) (reading phase.Data)) (IsReplyTo n) (λ x. x) (λ s r p. reply_of_lines n s r small p) (λ s r p. (r, refl, lines_of n s r p)) text 0

    same : (r : Result (Reply × ℕ) ReplyError) → mapped (λ x. x) r ≡ mapped (before_rest front) r
    same (Ok r) = ap (λ x. Ok (x, r.1)) (sym (before_none front r.0 marks shown passed rows))
    same (Err e) = refl

same_state : (p : Phase) (l : Line) → ((e : End) → l ≢ line.End e) → reading (phase_behind l) ≡ next_state (reading p) l
same_state p (line.Data bytes) h = refl
same_state p (line.Mark m) h = refl
same_state p (line.Passed q) h = refl
same_state p (line.Row ws) h = refl
same_state p (line.End e) h = absurd (h e refl)

pub ReadLines-more : (n : ℕ) (text : Text) (front more : Reply) (p : Phase) (place to : ℕ) (l : Line) → ReadLines n text front p place → IsRead (IsReplyLine (start n) p) text place l to → ((e : End) → l ≢ line.End e) → more ≡ with_line front l → ReadLines n text more (phase_behind l) to
ReadLines-more n text front more p place to l r h none is = record {
  leads = Leads-more (LineAt (start n)) next_state line_before over_at (codes_at (start n)) (IsReplyTo n) (before_rest front) (before_rest more) text 0 place to (reading p) (reading (phase_behind l)) l refl r.leads h (same_state p l none)
      (λ b. before_more front l b ∙ ap (λ x. before_rest x b) (sym is));
}

pub ReadLines-unread : (n : ℕ) (text : Text) (front : Reply) (p : Phase) (place : ℕ) (e : ReplyError) → ReadLines n text front p place → ReadsFrom (IsReplyLine (start n) p) text place (Err e) → ReadsFrom (IsReplyTo n) text 0 (Err e)
ReadLines-unread n text front p place e r h = Leads-unread (LineAt (start n)) next_state line_before over_at (codes_at (start n)) (IsReplyTo n) (begins_lines n) (before_rest front) text 0 place (reading p) e refl r.leads h

pub ReadLines-end : (n : ℕ) (text : Text) (front : Reply) (p : Phase) (place to : ℕ) (e : End) → ReadLines n text front p place → IsRead (IsReplyLine (start n) p) text place (line.End e) to → IsRead (IsReplyTo n) text 0 (with_end front e) to
ReadLines-end n text front p place to e r h =
    subst (λ x. IsRead (IsReplyTo n) text 0 x to) (before_end front e)
    (Leads-end (LineAt (start n)) next_state line_before over_at (codes_at (start n)) (IsReplyTo n) (before_rest front) text 0 to (over e) (end_alone e) refl
    (Leads-more (LineAt (start n)) next_state line_before over_at (codes_at (start n)) (IsReplyTo n) (before_rest front) (before_rest front) text 0 place to (reading p) (over e) (line.End e) refl r.leads h refl (λ b. refl)))
