-- Fronts of a reply: the text that tells the first marks, and no others.
use Rattle.std.proofs.Common.{◌≡◌, ℕ, ◌+◌, ◌-◌, ◌<◌, ◌≤◌, Bool, true, false, List, [], ◌∷◌, ◌++◌, length, take, refl, sym, ap, ◌∙◌, subst}
use Rattle.std.proofs.Common.{append_assoc, length-append, arith}
use Rattle.std.specs.Prelude.{flat_map, nat_le}
use Rattle.std.proofs.lemmas.Bool.{leb-true}
use Rattle.std.proofs.lemmas.Grind.{flat_map-append}
use Rattle.std.proofs.lemmas.List.{append-nil, length-map, map-append, nil_from_length, take-append-le}
use Rattle.grid_outside.specs.Sink.{AddsPart}
use Rattle.grid_model.specs.DataLines.{data_lines}
use Rattle.grid_model.specs.Names.{Text}
use Rattle.grid_model.specs.Replies.{end_line, mark_line, passed_line, rest_lines, row_line}
use Rattle.grid_model.specs.ReplyTexts.{reply_text}
use Rattle.grid_model.specs.Working.{Done}
use Rattle.grid_model.specs.declared.marks.Mark.{Mark}
use Rattle.grid_model.specs.declared.replies.Reply.{Reply}
use Rattle.grid_headline.specs.Served.{joined_texts, whole_in}
use Rattle.grid_headline.specs.Stops.{AreFirst}
use Rattle.run_laws.specs.Steps.{IsUntold, SureTexts}
use Rattle.run_laws.proofs.Texts.{whole-less}
use Rattle.service_run.specs.Steps.{lines_of}
use Rattle.rule_run.specs.Asked.{IsFrontOfReply, mark_lines}

-- ---- lines

ends_line : (t : Text) → 0 < length (t ++ 0x0A ∷ [])
ends_line t = omega (arith, length-append t (0x0A ∷ []))

pub line_bytes : (n : ℕ) (m : Mark) → 0 < length (mark_line n m)
line_bytes n m = ends_line _

pub rest_bytes : (n : ℕ) (r : Reply) → 0 < length (rest_lines n r)
rest_bytes n r =
    let a = data_lines n r.shown in
    let b = flat_map (passed_line n) r.passed in
    let c = flat_map (row_line n) r.rows in
    omega (arith, length-append ((a ++ b) ++ c) (end_line n r.end), end_bytes)
  where
    end_bytes : 0 < length (end_line n r.end)
    end_bytes = ends_line _

pub joined_lines : (n : ℕ) (marks : List Mark) → joined_texts (mark_lines n marks) ≡ lines_of n marks
joined_lines n [] = refl
joined_lines n (m ∷ marks) = ap (λ (t : Text). mark_line n m ++ t) (joined_lines n marks)

pub joined_append : (ts us : List Text) → joined_texts (ts ++ us) ≡ joined_texts ts ++ joined_texts us
joined_append ts us = flat_map-append (λ (t : Text). t) ts us

-- no byte tells no mark
pub untold_none : (n : ℕ) (marks : List Mark) (count : ℕ) → count ≤ 0 → IsUntold (mark_lines n marks) count
untold_none n [] count le = omega (arith, le)
untold_none n (m ∷ marks) count le = omega (arith, le, line_bytes n m)

-- ---- how many texts are told whole

none_whole : (ts : List Text) (count : ℕ) → IsUntold ts count → whole_in ts count ≡ 0
none_whole [] count untold = refl
none_whole (t ∷ ts) count untold = whole-less t ts count untold

-- in all of some texts, and so many bytes behind them that tell none, no more than these
pub whole_front : (ts us : List Text) (more : ℕ) → ((k : ℕ) → k ≤ more → IsUntold us k) → (count : ℕ) → count ≤ length (joined_texts ts) + more
    → whole_in (ts ++ us) count ≤ length ts
whole_front [] us more begun count le = omega (arith, none_whole us count (begun count (omega (arith, le))))
whole_front (t ∷ ts) us more begun count le = by (whole_front ts us more begun (count - length t)) (nat_le (length t) count) refl
  where
    by : (count - length t ≤ length (joined_texts ts) + more → whole_in (ts ++ us) (count - length t) ≤ length ts) → (b : Bool)
        → nat_le (length t) count ≡ b → elim b [ true ↦ whole_in (ts ++ us) (count - length t) + 1 | false ↦ 0 ] ≤ length (t ∷ ts)
    by rest true e =
        let within : count - length t ≤ length (joined_texts ts) + more =
        omega (arith, le, leb-true (length t) count e, length-append t (joined_texts ts)) in
        omega (arith, rest within)
    by rest false e = omega arith

-- ---- fronts

-- Some texts of a reply are told, and behind them a part of the others that tells none of these.
module _ (n : ℕ) (d : Done) (texts : SureTexts) (ts us : List Text) (part behind tail : Text) (told : List Mark) (text : Text)
    (pieces_are : texts.pieces ≡ ts ++ us) (sure_is : texts.sure ≡ joined_texts texts.pieces ++ tail) (split : joined_texts us ≡ part ++ behind)
    (begun : (k : ℕ) → k ≤ length part → IsUntold us k) (many : length ts ≡ length told) (text_is : text ≡ joined_texts ts ++ part) where
  all_is : joined_texts texts.pieces ≡ text ++ behind
  all_is =
      ap joined_texts pieces_are
      ∙ joined_append ts us
      ∙ ap (λ (t : Text). joined_texts ts ++ t) split
      ∙ sym (append_assoc (joined_texts ts) part behind)
      ∙ ap (λ (t : Text). t ++ behind) (sym text_is)

  bytes : length text ≡ length (joined_texts ts) + length part
  bytes = ap length text_is ∙ length-append (joined_texts ts) part

  few : (count : ℕ) → count ≤ length text → whole_in texts.pieces count ≤ length told
  few count le =
      let most = whole_front ts us (length part) begun count (omega (arith, le, bytes)) in
      omega (arith, most, ap (λ (vs : List Text). whole_in vs count) pieces_are, many)

  cut : (count : ℕ) → count ≤ length text → count < length (reply_text n d.reply texts.pieces)
  cut count le =
      omega (
        arith,
        le,
        ap length all_is,
        length-append text behind,
        rest_bytes n d.reply,
        length-append (joined_texts texts.pieces) (rest_lines n d.reply),
      )

  untold : told ≡ [] → (count : ℕ) → count ≤ length text → IsUntold texts.pieces count
  untold none count le =
      let no_texts : ts ≡ [] = nil_from_length ts (omega (arith, many, ap (λ (ms : List Mark). length ms) none)) in
      let within : count ≤ length part = omega (arith, le, bytes, ap (λ (vs : List Text). length (joined_texts vs)) no_texts) in
      subst (λ (vs : List Text). IsUntold vs count) (sym (pieces_are ∙ ap (λ (vs : List Text). vs ++ us) no_texts)) (begun count within)

  pub front_of : IsFrontOfReply n d texts told text
  front_of = record {
    rest = behind ++ tail;
    sure_is = sure_is ∙ ap (λ (t : Text). t ++ tail) all_is ∙ append_assoc text behind tail;
    few = few;
    cut = cut;
    untold = untold;
  }

-- a part of what tells these marks is one of what is sure
abbrev pub part_of_sure : (n : ℕ) (d : Done) (texts : SureTexts) (told : List Mark) (text : Text) → IsFrontOfReply n d texts told text → (old new : Text)
    → AddsPart text old new → AddsPart texts.sure old new
part_of_sure n d texts told text front old new part = record {
  count = part.count;
  within = omega (arith, part.within, ap length front.sure_is, length-append text front.rest);
  is = part.is ∙ ap (λ (t : Text). old ++ t) (sym (take-append-le part.count text front.rest part.within) ∙ ap (take part.count) (sym front.sure_is));
}

-- lines of the first marks, where the others have lines of their own or are left out
pub lines_front : (n : ℕ) (d : Done) (texts : SureTexts) (told : List Mark) (us : List Text) (tail : Text)
    → texts.pieces ≡ mark_lines n told ++ us → texts.sure ≡ joined_texts texts.pieces ++ tail → ((k : ℕ) → k ≤ 0 → IsUntold us k)
    → IsFrontOfReply n d texts told (lines_of n told)
lines_front n d texts told us tail pieces_are sure_is begun =
    front_of n d texts (mark_lines n told) us [] (joined_texts us) tail told (lines_of n told) pieces_are sure_is refl begun
    (length-map told (mark_line n)) (sym (append-nil (joined_texts (mark_lines n told)) ∙ joined_lines n told))

-- the lines of the first of some marks, where the others have lines too, or are left out of what is sure
pub lines_first : (n : ℕ) (d : Done) (texts : SureTexts) (told marks : List Mark) (tail : Text) (first : AreFirst told marks)
    → texts.pieces ≡ mark_lines n marks → texts.sure ≡ joined_texts texts.pieces ++ tail → IsFrontOfReply n d texts told (lines_of n told)
lines_first n d texts told marks tail first pieces_are sure_is =
    lines_front n d texts told (mark_lines n first.rest) tail
    (pieces_are ∙ ap (mark_lines n) first.are ∙ map-append (mark_line n) told first.rest) sure_is (λ k le. untold_none n first.rest k le)
