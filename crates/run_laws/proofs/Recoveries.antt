-- The marks of recoveries that are told, by how much of the report is shown.
use Rattle.std.proofs.Common.{◌≡◌, ℕ, zero, suc, ◌+◌, ◌-◌, ◌≤◌, List, [], ◌∷◌, ◌++◌, length, take, drop, map, Option, Some, None, refl, sym, ap, ◌∙◌, subst, append_assoc, take-append-drop, length-append, arith}
use Rattle.std.proofs.lemmas.List.{append-nil, take_all, length-map}
use Rattle.grid_model.specs.Names.{Text}
use Rattle.grid_model.specs.Rows.{Cat}
use Rattle.grid_model.specs.RowGrids.{grid_of}
use Rattle.grid_model.specs.Meanings.{gives}
use Rattle.grid_model.specs.Replies.{mark_line}
use Rattle.grid_model.specs.Reopening.{Unwound, reopened_by}
use Rattle.grid_model.specs.declared.deltas.Pending.{Pending}
use Rattle.grid_model.specs.declared.marks.Mark.{Mark}
use Rattle.grid_model.specs.declared.marks.Mark.TheVariants.{Stop}
use Rattle.grid_model.proofs.MeaningLemmas.{gives_is}
use Rattle.grid_headline.specs.Draws.{kept_count}
use Rattle.grid_headline.specs.Served.{joined_texts, report_back, report_front, report_told, whole_in}
use Rattle.grid_headline.specs.Stops.{AreFirst}
use Rattle.run_laws.specs.Handled.{Handled, marks_shown, marks_told}
use Rattle.run_laws.specs.Undone.{Undone, recoveries_told, report_begun, whole_report}
use Rattle.run_laws.proofs.Texts.{whole-behind}

-- ---- the first of some marks

-- of the first ones of these, those behind the ones in front and one more
behind-suc : (kept more : List Mark) (m : Mark) (k : ℕ) → drop (suc (length kept)) (take k (kept ++ m ∷ more)) ≡ take (k - suc (length kept)) more
behind-suc [] more m zero = refl
behind-suc [] more m (suc k) = let e : k ≡ suc k - 1 = omega arith in ap (λ j. take j more) e
behind-suc (x ∷ kept) more m zero = let e : 0 ≡ 0 - suc (suc (length kept)) = omega arith in ap (λ j. take j more) e
behind-suc (x ∷ kept) more m (suc k) =
    let e : k - suc (length kept) ≡ suc k - suc (suc (length kept)) = omega arith in
    behind-suc kept more m k ∙ ap (λ j. take j more) e

pub behind-one : (kept more : List Mark) (m : Mark) (k : ℕ) → drop (length kept + 1) (take k (kept ++ m ∷ more)) ≡ take (k - (length kept + 1)) more
behind-one kept more m k =
    let e : suc (length kept) ≡ length kept + 1 = omega arith in
    subst (λ j. drop j (take k (kept ++ m ∷ more)) ≡ take (k - j) more) e (behind-suc kept more m k)

pub first-take : (k : ℕ) (marks : List Mark) → AreFirst (take k marks) marks
first-take k marks = record { rest = drop k marks; are = sym (take-append-drop k marks) }

-- the same marks in front of both
pub first-behind : (front some all : List Mark) → AreFirst some all → AreFirst (front ++ some) (front ++ all)
first-behind front some all first = record { rest = first.rest; are = ap (λ (x : List Mark). front ++ x) first.are ∙ sym (append_assoc front some first.rest) }

-- ---- what is told

told_first : (o : Option Pending) (report : List Mark) (count : ℕ) → AreFirst (drop (kept_count o) (report_told o report count)) report
told_first None report count = record { rest = report; are = refl }
told_first (Some p) report count =
    let k = whole_in (report_front (Some p) report) count - 1 in
    subst (λ (x : List Mark). AreFirst x report) (sym (behind-one p.marks report Stop k)) (first-take (k - (length p.marks + 1)) report)

-- where nothing was pending there is none
none_undone : (c : Cat) (report : List Mark) (opened : Unwound) → reopened_by c None report ≡ gives opened → opened.left ≡ [] → report ≡ []
none_undone c report opened is all = ap (λ (x : Unwound). x.left) (gives_is is) ∙ all

told_whole : (c : Cat) (o : Option Pending) (report : List Mark) (opened : Unwound) (count : ℕ) → reopened_by c o report ≡ gives opened → opened.left ≡ []
    → length (joined_texts (report_front o report)) ≤ count → drop (kept_count o) (report_told o report count) ≡ report
told_whole c None report opened count is all shown = sym (none_undone c report opened is all)
told_whole c (Some p) report opened count is all shown =
    let lines = report_front (Some p) report in
    let k = whole_in lines count - 1 in
    let more = count - length (joined_texts lines) in
    let bytes : count ≡ length (joined_texts lines) + more = omega (arith, shown) in
    let w : whole_in lines count ≡ length lines =
    ap (whole_in lines) bytes ∙ ap (λ (l : List Text). whole_in l (length (joined_texts lines) + more)) (sym (append-nil lines)) ∙ whole-behind lines [] more ∙ omega arith in
    let maps : length (map (mark_line p.number) (p.marks ++ Stop ∷ report)) ≡ length (p.marks ++ Stop ∷ report) = length-map (p.marks ++ Stop ∷ report) (mark_line p.number) in
    let many : length lines ≡ length (p.marks ++ Stop ∷ report) + 1 = omega (arith, maps) in
    behind-one p.marks report Stop k
    ∙ take_all (k - (length p.marks + 1)) report (omega (arith, w, many, length-append p.marks (Stop ∷ report)))

module _ (found : Cat) (u : Undone found) where
  -- where nothing was pending the grid is as it was
  pub left-alone : found.pending ≡ None → u.opened.grid ≡ grid_of found
  left-alone none =
      let is : reopened_by found None u.report ≡ gives u.opened = subst (λ (o : Option Pending). reopened_by found o u.report ≡ gives u.opened) none u.opened_is in
      sym (ap (λ (x : Unwound). x.grid) (gives_is is))

  -- they are the first of those of the report
  pub recoveries-first : (count : ℕ) → AreFirst (recoveries_told found u count) u.report
  recoveries-first count = told_first found.pending u.report count

  -- and all, where the report is shown
  pub recoveries-all : (count : ℕ) → length (whole_report found u) ≤ count → recoveries_told found u count ≡ u.report
  recoveries-all count shown =
      told_whole found found.pending u.report u.opened count u.opened_is u.opened_all
      (omega (arith, shown, length-append (report_begun found u) (report_back found.pending u.opened.passed)))

  -- then the first of these are told, where the first of the others are shown of requests
  pub told-behind : (h : Handled) (count : ℕ) (all : List Mark) → length (whole_report found u) ≤ count
      → AreFirst (marks_shown h (count - length (whole_report found u))) all → AreFirst (marks_told found u h count) (u.report ++ all)
  told-behind h count all shown first =
      subst (λ (x : List Mark). AreFirst (x ++ marks_shown h (count - length (whole_report found u))) (u.report ++ all)) (sym (recoveries-all count shown))
      (first-behind u.report (marks_shown h (count - length (whole_report found u))) all first)
