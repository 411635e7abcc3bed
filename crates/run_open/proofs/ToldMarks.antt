-- Which marks of recoveries are told, by how many bytes of a report are shown.
use Rattle.std.proofs.Common.{◌≡◌, ℕ, suc, ◌+◌, ◌≤◌, List, [], ◌∷◌, ◌++◌, length, drop, Option, Some, None, refl, subst, ap, arith}
use Rattle.grid_model.specs.Names.{Text}
use Rattle.grid_model.specs.declared.deltas.Pending.{Pending}
use Rattle.grid_model.specs.declared.marks.Mark.{Mark}
use Rattle.grid_model.specs.declared.marks.Mark.TheVariants.{Stop}
use Rattle.grid_headline.specs.Draws.{kept_count}
use Rattle.grid_headline.specs.Served.{joined_texts, report_front, report_told}
use Rattle.grid_headline.specs.Stops.{AreFirst}
use Rattle.service_run.specs.Steps.{lines_of}
use Rattle.undo_run.specs.Undoing.{told_before}
use Rattle.undo_run.proofs.Reports.{front_joined, told_first}

-- the lines of these marks of recoveries, where something was pending
abbrev pub recovery_lines : Option Pending → List Mark → Text
recovery_lines None marks = []
recovery_lines (Some p) marks = lines_of p.number marks

-- they stand behind the lines up to the `Stop`
pub front-split : (o : Option Pending) (report : List Mark) → joined_texts (report_front o report) ≡ joined_texts (report_front o []) ++ recovery_lines o report
front-split None report = refl
front-split (Some p) report = front_joined p report

-- all but the first
others : List Mark → List Mark
others [] = []
others (m ∷ marks) = marks

-- the first of some marks, without those in front and one more
first-behind : (kept : List Mark) (m : Mark) (told some : List Mark) → AreFirst told (kept ++ m ∷ some) → AreFirst (drop (suc (length kept)) told) some
unfolding others
first-behind [] m [] some first = record { rest = some; are = refl }
first-behind [] m (x ∷ told) some first = record { rest = first.rest; are = ap others first.are }
first-behind (y ∷ kept) m [] some first = record { rest = some; are = refl }
first-behind (y ∷ kept) m (x ∷ told) some first = first-behind kept m told some (record { rest = first.rest; are = ap others first.are })

-- where no more is shown than the lines of the first of them, no others are told
pub recoveries-told : (p : Pending) (some all : List Mark) (count : ℕ) → AreFirst some all → count ≤ length (told_before p) + length (lines_of p.number some)
    → AreFirst (drop (length p.marks + 1) (report_told (Some p) all count)) some
recoveries-told p some all count first within =
    let e : suc (length p.marks) ≡ length p.marks + 1 = omega arith in
    subst (λ n. AreFirst (drop n (report_told (Some p) all count)) some) e
    (first-behind p.marks Stop (report_told (Some p) all count) some (told_first p some all count first within))

-- up to the `Stop` none of them is
pub none-told : (o : Option Pending) (report : List Mark) (count : ℕ) → count ≤ length (joined_texts (report_front o [])) → AreFirst (drop (kept_count o) (report_told o report count)) []
none-told None report count within = record { rest = []; are = refl }
none-told (Some p) report count within = recoveries-told p [] report count (record { rest = report; are = refl }) (omega (arith, within))

-- and what is told is kept
pub told-before : (p : Pending) (report : List Mark) (count : ℕ) → count ≤ length (joined_texts (report_front (Some p) [])) → AreFirst (report_told (Some p) report count) (p.marks ++ Stop ∷ [])
told-before p report count within = told_first p [] report count (record { rest = report; are = refl }) (omega (arith, within))
