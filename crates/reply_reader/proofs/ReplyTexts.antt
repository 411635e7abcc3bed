-- The lines of a reply, from the reply.
use Rattle.std.proofs.Common.{◌≡◌, ℕ, zero, suc, ◌<◌, ◌≤◌, Bool, true, false, cond, List, [], ◌∷◌, ◌++◌, length, take, drop, refl, sym, ap, ◌∙◌, subst, arith, append_assoc, length-drop, inl, inr}
use Rattle.std.specs.Prelude.{◌⊎◌, ◌==◌, decimal, flat_map}
use Rattle.std.specs.List.{list_all}
use Rattle.std.proofs.lemmas.Bool.{and_parts, cases_lt}
use Rattle.std.proofs.lemmas.List.{append-nil, take-append-drop, length-take-le}
use Rattle.std.proofs.Common.{eq-eqb}
use Rattle.grid_model.specs.Names.{Text}
use Rattle.grid_model.specs.Limits.{part_size}
use Rattle.grid_model.specs.DataLines.{data_line, data_lines}
use Rattle.grid_model.specs.Printing.{spaced}
use Rattle.grid_model.specs.Replies.{mark_line, mark_words, passed_line, row_line, end_line}
use Rattle.grid_model.specs.ReplySpelling.{FitsEnd, FitsMark, SpellsMarks, no_marks, next_mark, SpellsReply}
use Rattle.grid_model.specs.Writable.{is_word, is_writable_end, is_writable_passed}
use Rattle.grid_model.specs.declared.marks.Mark.{Mark}
use Rattle.grid_model.specs.declared.replies.End.{End}
use Rattle.grid_model.specs.declared.replies.End.TheVariants as end
use Rattle.grid_model.specs.declared.replies.Passed.{Passed}
use Rattle.grid_model.specs.declared.replies.Reply.{Reply}
use Rattle.cmd_reply.proofs.DataParts.{data_lines-more}
use Rattle.reply_reader.specs.Lines.{IsReplyLine, IsReplyTo, may_come}
use Rattle.reply_reader.specs.declared.lines.Kind.TheVariants as kind
use Rattle.reply_reader.specs.declared.lines.Line.TheVariants as line
use Rattle.reply_reader.specs.declared.lines.Phase.{Phase}
use Rattle.reply_reader.specs.declared.lines.Phase.TheVariants as phase
use Rattle.reply_reader.proofs.Assembling.{reading, next_state, line_before, shown_before, end_alone, Lines, shown_none, shown_twice}
use Rattle.reply_reader.proofs.LineTexts.{start, made_line, data_text, mark_text, row_text, done_text, err_text, passed_text, words_from, behind_name, passed_from, behind_passed, err_from, behind_err, is_done}
use Rattle.reply_reader.proofs.ReplyLines.{one_part, rest_parts, ends, writable_parts}
use Rattle.reply_reader.proofs.Runs.{stops, goes}

-- ---- what may come in each phase

good_comes : (p : Phase) → may_come p kind.Good ≡ true
good_comes phase.Data = refl
good_comes phase.Marks = refl
good_comes phase.Passed = refl
good_comes phase.Rows = refl

error_comes : (p : Phase) → may_come p kind.Error ≡ true
error_comes phase.Data = refl
error_comes phase.Marks = refl
error_comes phase.Passed = refl
error_comes phase.Rows = refl

row_comes : (p : Phase) → may_come p kind.Row ≡ true
row_comes phase.Data = refl
row_comes phase.Marks = refl
row_comes phase.Passed = refl
row_comes phase.Rows = refl

-- ---- the lines, from the last one on

module _ (n : ℕ) where
  one_end : (p : Phase) (e : End) → IsReplyLine (start n) p (end_line n e) (line.End e) → Lines (start n) (reading p) (end_line n e) (end_alone e)
  one_end p e l = goes {first = end_line n e} {rest = []} {a = line.End e} {b = end_alone e} refl (sym (append-nil (end_line n e))) l (stops refl refl) refl

  other_end : (p : Phase) (e : End) → is_done e ≡ false → is_writable_end e ≡ true → FitsEnd e → Lines (start n) (reading p) (end_line n e) (end_alone e)
  other_end p e none writable fits =
      let spells = err_from e none writable fits in
      one_end p e (made_line n p kind.Error (end_line n e) (behind_err e) (line.End e) (error_comes p) (err_text n (behind_err e) e spells) (record { value = e; is = refl; spells = spells }))

  pub end_lines : (p : Phase) (e : End) → is_writable_end e ≡ true → FitsEnd e → Lines (start n) (reading p) (end_line n e) (end_alone e)
  end_lines p (end.Done ws) writable fits =
      let spells = words_from ws writable in
      one_end p (end.Done ws) (made_line n p kind.Good (end_line n (end.Done ws)) (behind_name ws) (line.End (end.Done ws)) (good_comes p) (done_text n (behind_name ws) ws spells) (record { value = ws; is = refl; spells = spells }))
  end_lines p (end.Refused r) writable fits = other_end p (end.Refused r) refl writable fits
  end_lines p (end.PreFailed f) writable fits = other_end p (end.PreFailed f) refl writable fits
  end_lines p (end.PostFailed f) writable fits = other_end p (end.PostFailed f) refl writable fits
  end_lines p (end.Failed f) writable fits = other_end p (end.Failed f) refl writable fits
  end_lines p end.Stopped writable fits = other_end p end.Stopped refl writable fits

  row_lines : (p : Phase) (rows : List (List Text)) (e : End) → list_all (list_all is_word) rows ≡ true → is_writable_end e ≡ true → FitsEnd e
      → Lines (start n) (reading p) (flat_map (row_line n) rows ++ end_line n e) (record { marks = []; shown = []; passed = []; rows = rows; end = e })
  row_lines p [] e words writable fits = end_lines p e writable fits
  row_lines p (ws ∷ rows) e words writable fits =
      let both = and_parts (list_all is_word ws) (list_all (list_all is_word) rows) words in
      let spells = words_from ws both.0 in
      goes {first = row_line n ws} {rest = flat_map (row_line n) rows ++ end_line n e} {a = line.Row ws} {b = record { marks = []; shown = []; passed = []; rows = rows; end = e }} refl
      (append_assoc (row_line n ws) (flat_map (row_line n) rows) (end_line n e))
      (made_line n p kind.Row (row_line n ws) (behind_name ws) (line.Row ws) (row_comes p) (row_text n (behind_name ws) ws spells) (record { value = ws; is = refl; spells = spells }))
      (row_lines phase.Rows rows e both.1 writable fits) refl

  passed_lines : (p : Phase) (passed : List Passed) (rows : List (List Text)) (e : End) → may_come p kind.Passed ≡ true → list_all is_writable_passed passed ≡ true → list_all (list_all is_word) rows ≡ true → is_writable_end e ≡ true → FitsEnd e
      → Lines (start n) (reading p) (flat_map (passed_line n) passed ++ (flat_map (row_line n) rows ++ end_line n e)) (record { marks = []; shown = []; passed = passed; rows = rows; end = e })
  passed_lines p [] rows e comes all words writable fits = row_lines p rows e words writable fits
  passed_lines p (q ∷ passed) rows e comes all words writable fits =
      let both = and_parts (is_writable_passed q) (list_all is_writable_passed passed) all in
      let spells = passed_from q both.0 in
      goes {first = passed_line n q} {rest = flat_map (passed_line n) passed ++ (flat_map (row_line n) rows ++ end_line n e)} {a = line.Passed q} {b = record { marks = []; shown = []; passed = passed; rows = rows; end = e }} refl
      (append_assoc (passed_line n q) (flat_map (passed_line n) passed) (flat_map (row_line n) rows ++ end_line n e))
      (made_line n p kind.Passed (passed_line n q) (behind_passed q) (line.Passed q) comes (passed_text n (behind_passed q) q spells) (record { value = q; is = refl; spells = spells }))
      (passed_lines phase.Passed passed rows e refl both.1 words writable fits) refl

  -- ---- bytes as data lines

  -- no bytes
  no_data : (r : Reply) → r ≡ line_before (line.Data []) r
  no_data r = (λ i. record { marks = r.marks; shown = sym (shown_none r.marks r.shown) i; passed = r.passed; rows = r.rows; end = r.end })

  data_made : (bytes : Text) → 0 < length bytes → length bytes ≤ part_size → IsReplyLine (start n) phase.Data (data_line n bytes) (line.Data bytes)
  data_made bytes some short = made_line n phase.Data kind.Data (data_line n bytes) ((decimal (length bytes) ++ 0x0A ∷ bytes) ++ 0x0A ∷ []) (line.Data bytes) refl (data_text n bytes)
      (record { value = bytes; is = refl; spells = record { some = omega (arith, some); most = short; is = refl } })

  -- the phase behind a line of these bytes, whichever it is
  phase_of : (bytes t : Text) (r : Reply) (x : Bool) → (length bytes == part_size) ≡ x → Lines (start n) (reading (cond x phase.Data phase.Marks)) t r → Lines (start n) (next_state (reading phase.Data) (line.Data bytes)) t r
  phase_of bytes t r x e h = subst (λ y. Lines (start n) (reading (cond y phase.Data phase.Marks)) t r) (sym e) h

  both_phases : (x : Bool) (t : Text) (r : Reply) → Lines (start n) (reading phase.Data) t r → Lines (start n) (reading phase.Marks) t r → Lines (start n) (reading (cond x phase.Data phase.Marks)) t r
  both_phases true t r full short = full
  both_phases false t r full short = short

  -- the last part
  data_last : (bytes t : Text) (r : Reply) → 0 < length bytes → length bytes ≤ part_size → Lines (start n) (reading phase.Data) t r → Lines (start n) (reading phase.Marks) t r → Lines (start n) (reading phase.Data) (data_lines n bytes ++ t) (line_before (line.Data bytes) r)
  data_last bytes t r some small full short =
      goes {first = data_line n bytes} {rest = t} {a = line.Data bytes} {b = r} refl (ap (λ x. x ++ t) (one_part n bytes some small)) (data_made bytes some small)
      (phase_of bytes t r (length bytes == part_size) refl (both_phases (length bytes == part_size) t r full short)) refl

  -- a full part before others
  data_step : (whole part rest t : Text) (r : Reply) → part ++ rest ≡ whole → length part ≡ part_size → data_lines n whole ≡ data_line n part ++ data_lines n rest
      → Lines (start n) (reading phase.Data) (data_lines n rest ++ t) (line_before (line.Data rest) r) → Lines (start n) (reading phase.Data) (data_lines n whole ++ t) (line_before (line.Data whole) r)
  data_step whole part rest t r joined size cut later =
      goes {first = data_line n part} {rest = data_lines n rest ++ t} {a = line.Data part} {b = line_before (line.Data rest) r} refl
      (ap (λ x. x ++ t) cut ∙ append_assoc (data_line n part) (data_lines n rest) t)
      (data_made part (omega (arith, size)) (omega (arith, size)))
      (phase_of part (data_lines n rest ++ t) (line_before (line.Data rest) r) true (eq-eqb (length part) part_size size) later)
      ((λ i. record { marks = r.marks; shown = shown_before r.marks (sym joined i) r.shown; passed = r.passed; rows = r.rows; end = r.end })
      ∙ (λ i. record { marks = r.marks; shown = sym (shown_twice r.marks part rest r.shown) i; passed = r.passed; rows = r.rows; end = r.end }))

  data_long : (whole t : Text) (r : Reply) → part_size < length whole → Lines (start n) (reading phase.Data) (data_lines n (drop part_size whole) ++ t) (line_before (line.Data (drop part_size whole)) r) → Lines (start n) (reading phase.Data) (data_lines n whole ++ t) (line_before (line.Data whole) r)
  data_long whole t r long later =
      data_step whole (take part_size whole) (drop part_size whole) t r (take-append-drop part_size whole) (length-take-le part_size whole (omega (arith, long))) (data_lines-more n whole (omega (arith, long))) later

  data_cases : (k : ℕ) (bytes t : Text) (r : Reply) → 0 < length bytes → length bytes ≤ suc k → Lines (start n) (reading phase.Data) t r → Lines (start n) (reading phase.Marks) t r
      → (length (drop part_size bytes) ≤ k → Lines (start n) (reading phase.Data) (data_lines n (drop part_size bytes) ++ t) (line_before (line.Data (drop part_size bytes)) r))
      → (part_size < length bytes) ⊎ (length bytes ≤ part_size) → Lines (start n) (reading phase.Data) (data_lines n bytes ++ t) (line_before (line.Data bytes) r)
  data_cases k bytes t r some h full short again (inr small) = data_last bytes t r some small full short
  data_cases k bytes t r some h full short again (inl long) = data_long bytes t r long (again (omega (arith, h, length-drop part_size bytes)))

  data_before : (k : ℕ) (bytes t : Text) (r : Reply) → length bytes ≤ k → Lines (start n) (reading phase.Data) t r → Lines (start n) (reading phase.Marks) t r → Lines (start n) (reading phase.Data) (data_lines n bytes ++ t) (line_before (line.Data bytes) r)
  data_before k [] t r h full short = subst (Lines (start n) (reading phase.Data) t) (no_data r) full
  data_before zero (b ∷ bytes) t r h full short = absurd (omega (arith, h))
  data_before (suc k) (b ∷ bytes) t r h full short =
      data_cases k (b ∷ bytes) t r (omega arith) h full short (λ left. data_before k (drop part_size (b ∷ bytes)) t r left full short) (cases_lt part_size (length (b ∷ bytes)))

  -- ---- marks

  mark_made : (p : Phase) (m : Mark) → may_come p kind.Mark ≡ true → FitsMark m → IsReplyLine (start n) p (mark_line n m) (line.Mark m)
  mark_made p m comes fits = made_line n p kind.Mark (mark_line n m) (spaced (mark_words m) ++ 0x0A ∷ []) (line.Mark m) comes (mark_text n m) (record { value = m; is = refl; spells = record { fits = fits; is = refl } })

  mark_lines : (front : Text) (ms : List Mark) → SpellsMarks n front ms → (t : Text) (shown : Text) (passed : List Passed) (rows : List (List Text)) (e : End)
      → Lines (start n) (reading phase.Data) t (record { marks = []; shown = shown; passed = passed; rows = rows; end = e })
      → Lines (start n) (reading phase.Data) (front ++ t) (record { marks = ms; shown = shown; passed = passed; rows = rows; end = e })
  mark_lines front ms no_marks t shown passed rows e h = h
  mark_lines front ms (next_mark {after = after} {m = m} {ms = others} bytes is fits more) t shown passed rows e h =
      let later = mark_lines after others more t shown passed rows e h in
      let r : Reply = record { marks = others; shown = shown; passed = passed; rows = rows; end = e } in
      let run : (p : Phase) → may_come p kind.Mark ≡ true → Lines (start n) (reading p) (mark_line n m ++ (after ++ t)) (line_before (line.Mark m) r) =
      λ p comes. goes {first = mark_line n m} {rest = after ++ t} {a = line.Mark m} {b = r} refl refl (mark_made p m comes fits) later refl in
      subst (λ x. Lines (start n) (reading phase.Data) x (record { marks = m ∷ others; shown = shown; passed = passed; rows = rows; end = e })) (sym (ap (λ x. x ++ t) is ∙ regroup (data_lines n bytes) (mark_line n m) after t))
      (data_before (length bytes) bytes (mark_line n m ++ (after ++ t)) (line_before (line.Mark m) r) (omega arith) (run phase.Data refl) (run phase.Marks refl))
    where
      regroup : (a b c d : Text) → ((a ++ b) ++ c) ++ d ≡ a ++ (b ++ (c ++ d))
      regroup a b c d = simp append_assoc

  pub lines_of_reply : (text : Text) (r : Reply) → SpellsReply text (n, r) → Lines (start n) (reading phase.Data) text r
  lines_of_reply text r s =
      let parts = writable_parts r s.writable in
      let run : (p : Phase) → may_come p kind.Passed ≡ true → Lines (start n) (reading p) (ends n r) (record { marks = []; shown = []; passed = r.passed; rows = r.rows; end = r.end }) =
      λ p comes. passed_lines p r.passed r.rows r.end comes parts.0 parts.1 parts.2 s.end_fits in
      let shown = data_before (length r.shown) r.shown (ends n r) (record { marks = []; shown = []; passed = r.passed; rows = r.rows; end = r.end }) (omega arith) (run phase.Data refl) (run phase.Marks refl) in
      let all : Lines (start n) (reading phase.Data) (data_lines n r.shown ++ ends n r) (record { marks = []; shown = r.shown; passed = r.passed; rows = r.rows; end = r.end }) =
      subst (λ x. Lines (start n) (reading phase.Data) (data_lines n r.shown ++ ends n r) (record { marks = []; shown = x; passed = r.passed; rows = r.rows; end = r.end })) (append-nil r.shown) shown in
      subst (λ x. Lines (start n) (reading phase.Data) x r) (sym (s.text_is ∙ ap (λ x. s.front ++ x) (rest_parts n r)))
      (mark_lines s.front r.marks s.marks (data_lines n r.shown ++ ends n r) r.shown r.passed r.rows r.end all)

pub lines_of : (n : ℕ) (text : Text) (r : Reply) → IsReplyTo n text r → Lines (start n) (reading phase.Data) text r
lines_of n text r p = lines_of_reply n text r p.spells
