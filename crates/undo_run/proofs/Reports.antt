-- Which marks a front of the report of a stopped command tells.
use Rattle.std.proofs.Common.{◌≡◌, ℕ, ◌+◌, ◌-◌, ◌<◌, ◌≤◌, List, [], ◌∷◌, ◌++◌, Some, length, take, drop, map}
use Rattle.std.proofs.Common.{refl, sym, ap, ◌∙◌, subst, append_assoc, take-append-drop, length-append, arith}
use Rattle.std.specs.Prelude.{codes, decimal}
use Rattle.std.proofs.lemmas.Grind.{flat_map-append}
use Rattle.std.proofs.lemmas.List.{length-map, map-append, take-append-le}
use Rattle.grid_model.specs.Names.{Text}
use Rattle.grid_model.specs.Printing.{spaced}
use Rattle.grid_model.specs.Replies.{mark_line}
use Rattle.grid_model.specs.ReplyTexts.{report_lines}
use Rattle.grid_model.specs.declared.deltas.Pending.{Pending}
use Rattle.grid_model.specs.declared.marks.Mark.{Mark}
use Rattle.grid_model.specs.declared.marks.Mark.TheVariants.{Stop}
use Rattle.grid_headline.specs.Served.{joined_texts, report_front, report_told, whole_in}
use Rattle.grid_headline.specs.Stops.{AreFirst}
use Rattle.run_laws.proofs.Texts.{HaveBytes, whole-more, whole-most}
use Rattle.service_run.specs.Steps.{lines_of}
use Rattle.undo_run.specs.Undoing.{told_before}

-- ---- lines

line_bytes : (n : ℕ) (m : Mark) → 0 < length (mark_line n m)
line_bytes n m = ends_line _
  where
    ends_line : (t : Text) → 0 < length (t ++ 0x0A ∷ [])
    ends_line t = omega (arith, length-append t (0x0A ∷ []))

lines_bytes : (n : ℕ) (marks : List Mark) → HaveBytes (map (mark_line n) marks)
lines_bytes n [] = tt
lines_bytes n (m ∷ marks) = (line_bytes n m, lines_bytes n marks)

joined_map : (n : ℕ) (marks : List Mark) → joined_texts (map (mark_line n) marks) ≡ lines_of n marks
joined_map n [] = refl
joined_map n (m ∷ marks) = ap (λ (t : Text). mark_line n m ++ t) (joined_map n marks)

-- ---- a report

-- the first of some marks, as far as these reach
first_of : (kept some rest : List Mark) (k : ℕ) → k ≤ length (kept ++ Stop ∷ some) → AreFirst (take k (kept ++ Stop ∷ (some ++ rest))) (kept ++ Stop ∷ some)
first_of kept some rest k le = record {
  rest = drop k (kept ++ Stop ∷ some);
  are = sym (take-append-drop k (kept ++ Stop ∷ some)) ∙ ap (λ (ms : List Mark). ms ++ drop k (kept ++ Stop ∷ some)) (sym cut);
}
  where
    cut : take k (kept ++ Stop ∷ (some ++ rest)) ≡ take k (kept ++ Stop ∷ some)
    cut = ap (take k) (sym (append_assoc kept (Stop ∷ some) rest)) ∙ take-append-le k (kept ++ Stop ∷ some) rest le

-- its line before those of marks
abbrev head_line : Pending → Text
head_line p = spaced (codes "stopped" ∷ decimal p.run ∷ decimal p.number ∷ []) ++ 0x0A ∷ []

module _ (p : Pending) where
  -- the first lines of the report, with the marks of some recoveries
  abbrev front : List Mark → List Text
  front marks = report_front (Some p) marks

  -- the lines of more marks stand behind
  front_more : (a b : List Mark) → front (a ++ b) ≡ front a ++ map (mark_line p.number) b
  front_more a b =
      ap (report_lines p.run p.number) (sym (append_assoc p.marks (Stop ∷ a) b))
      ∙ ap (λ (ts : List Text). head_line p ∷ ts) (map-append (mark_line p.number) (p.marks ++ Stop ∷ a) b)

  pub front_joined : (marks : List Mark) → joined_texts (front marks) ≡ told_before p ++ lines_of p.number marks
  front_joined marks =
      ap joined_texts (front_more [] marks)
      ∙ flat_map-append (λ (t : Text). t) (front []) (map (mark_line p.number) marks)
      ∙ ap (λ (t : Text). told_before p ++ t) (joined_map p.number marks)

  -- so many lines
  front_many : (a : List Mark) → length (front a) ≡ length (p.marks ++ Stop ∷ a) + 1
  front_many a =
      let maps : length (map (mark_line p.number) (p.marks ++ Stop ∷ a)) ≡ length (p.marks ++ Stop ∷ a) = length-map (p.marks ++ Stop ∷ a) (mark_line p.number) in
      omega (arith, maps)

  -- Where no more is shown than the lines of some of its marks, no others are told.
  pub told_first : (some all : List Mark) (count : ℕ) → AreFirst some all → count ≤ length (told_before p) + length (lines_of p.number some)
      → AreFirst (report_told (Some p) all count) (p.marks ++ Stop ∷ some)
  told_first some all count first le =
      subst (λ (ms : List Mark). AreFirst (report_told (Some p) ms count) (p.marks ++ Stop ∷ some)) (sym first.are)
      (first_of p.marks some first.rest (whole_in (front (some ++ first.rest)) count - 1) few)
    where
      within : count ≤ length (joined_texts (front some))
      within = omega (arith, le, ap length (front_joined some), length-append (told_before p) (lines_of p.number some))

      seen : whole_in (front (some ++ first.rest)) count ≡ whole_in (front some) count
      seen =
          ap (λ (ts : List Text). whole_in ts count) (front_more some first.rest)
          ∙ whole-more (front some) (map (mark_line p.number) first.rest) count (lines_bytes p.number first.rest) within

      few : whole_in (front (some ++ first.rest)) count - 1 ≤ length (p.marks ++ Stop ∷ some)
      few = omega (arith, seen, whole-most (front some) count, front_many some)
