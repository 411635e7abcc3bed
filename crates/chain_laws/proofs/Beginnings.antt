-- How a part of a command begins without marks, and that it can be brought to an end.
use Rattle.std.proofs.Common.{◌≡◌, true, List, [], ◌∷◌, ◌++◌, refl, sym, ◌∙◌, ap, append_assoc}
use Rattle.grid_model.specs.Names.{Text}
use Rattle.grid_model.specs.Meanings.{Meaning, Waiting, gives, waits, ◌>>=◌, behind, mapped}
use Rattle.grid_model.specs.Deeds.{Deed, fits}
use Rattle.grid_model.specs.Doing.{Course, Did, take_mark, do_call}
use Rattle.grid_model.specs.Chains.{Named, Stepped, Chained, goes_on, cuts, succeeds, fails}
use Rattle.grid_model.specs.declared.calls.Call.{Call}
use Rattle.grid_model.specs.declared.marks.Mark.{Mark}
use Rattle.grid_model.specs.declared.marks.Mark.TheVariants.{Ran}
use Rattle.chain_laws.specs.Ending.{AreRan}

-- ---- the marks that are left

-- the same with these marks left, of a course and of what calls, steps, chains and rules left
abbrev pub with_marks : List Mark → Course → Course
with_marks marks s = record s { marks = marks }

abbrev pub did_with : List Mark → Did → Did
did_with marks d = record d { state = with_marks marks d.state }

abbrev pub step_with : List Mark → Stepped → Stepped
step_with marks (goes_on s) = goes_on (with_marks marks s)
step_with marks (cuts s) = cuts (with_marks marks s)
step_with marks (succeeds s) = succeeds (with_marks marks s)
step_with marks (fails s f halts) = fails (with_marks marks s) f halts

abbrev pub chain_with : List Mark → Chained → Chained
chain_with marks e = record e { state = with_marks marks e.state }

abbrev pub named_with : List Mark → Named → Named
named_with marks n = record n { state = with_marks marks n.state }

-- ---- it ends

pub append_ran : (xs ys : List Mark) → AreRan xs → AreRan ys → AreRan (xs ++ ys)
append_ran [] ys h k = k
append_ran (x ∷ xs) ys h k = (h.0, append_ran xs ys h.1 k)

-- with some marks of deeds that ran it ends, and leaves any others that are behind them
pub record Ends {A : Type 0} (with : List Mark → A → A) (does : List Mark → Meaning A) : Type 0 where
  pub marks : List Mark
  pub ran : AreRan marks
  pub to : A
  pub ends : (later : List Mark) → does (marks ++ later) ≡ gives (with later to)

-- with no mark
pub ends_at_once : {A : Type 0} (with : List Mark → A → A) (does : List Mark → Meaning A) (x : A) → ((later : List Mark) → does later ≡ gives (with later x))
    → Ends with does
ends_at_once with does x e = record { marks = []; ran = tt; to = x; ends = e }

module _ {A B : Type 0} (wa : List Mark → A → A) (wb : List Mark → B → B) where
  -- first the one, and with what it gave the other
  pub ends_then : (does : List Mark → Meaning A) (next : A → Meaning B) → Ends wa does → ((x : A) → Ends wb (λ marks. next (wa marks x)))
      → Ends wb (λ marks. does marks >>= next)
  ends_then does next h each = joined h (each h.to)
    where
      joined : (h : Ends wa does) → Ends wb (λ marks. next (wa marks h.to)) → Ends wb (λ marks. does marks >>= next)
      joined h k = record {
        marks = h.marks ++ k.marks;
        ran = append_ran h.marks k.marks h.ran k.ran;
        to = k.to;
        ends = λ later.
            ap (λ marks. does marks >>= next) (append_assoc h.marks k.marks later) ∙ ap (λ m. m >>= next) (h.ends (k.marks ++ later)) ∙ k.ends later;
      }

  pub ends_mapped : (does : List Mark → Meaning A) (f : A → B) → ((marks : List Mark) (x : A) → f (wa marks x) ≡ wb marks (f x)) → Ends wa does
      → Ends wb (λ marks. mapped f (does marks))
  ends_mapped does f same h = record {
    marks = h.marks;
    ran = h.ran;
    to = f h.to;
    ends = λ later. ap (mapped f) (h.ends later) ∙ ap gives (same later h.to);
  }

pub ends_behind : {A : Type 0} (with : List Mark → A → A) (cs : List Call) (does : List Mark → Meaning A) → Ends with does
    → Ends with (λ marks. behind cs (does marks))
ends_behind with cs does h = record { marks = h.marks; ran = h.ran; to = h.to; ends = λ later. ap (behind cs) (h.ends later) }

-- the same of what does the same
pub ends_as : {A : Type 0} (with : List Mark → A → A) (v w : List Mark → Meaning A) → ((marks : List Mark) → v marks ≡ w marks) → Ends with v → Ends with w
ends_as with v w same h = record { marks = h.marks; ran = h.ran; to = h.to; ends = λ later. sym (same (h.marks ++ later)) ∙ h.ends later }

-- ---- it begins

-- a call that waits is one of the deed, wherever the grid is so
abbrev pub IsDeedOf : Text → Waiting → Deed → Type 0
IsDeedOf user w d = (s : Course) → s.grid ≡ w.grid → do_call user w.call s ≡ take_mark w.call s d s.marks

-- It takes no mark, or waits for the mark of a deed, and ends behind each that fits.
pub data Begins {A : Type 0} (with : List Mark → A → A) (user : Text) (does : List Mark → Meaning A) : Type 0 where
  at_once : (x : A) → ((later : List Mark) → does later ≡ gives (with later x)) → Begins with user does
  in_deed : (w : Waiting) (d : Deed) → IsDeedOf user w d → does [] ≡ waits w → fits d (Ran 0 0 []) ≡ true
      → ((m : Mark) → fits d m ≡ true → Ends with (λ marks. does (m ∷ marks))) → Begins with user does

-- then it ends
pub ends_of : {A : Type 0} (with : List Mark → A → A) (user : Text) (does : List Mark → Meaning A) → Begins with user does → Ends with does
ends_of with user does (at_once x e) = ends_at_once with does x e
ends_of with user does (in_deed w d is e ran each) = by_ran (each (Ran 0 0 []) ran)
  where
    by_ran : Ends with (λ marks. does (Ran 0 0 [] ∷ marks)) → Ends with does
    by_ran h = record { marks = Ran 0 0 [] ∷ h.marks; ran = (refl, h.ran); to = h.to; ends = h.ends }

module _ {A B : Type 0} (wa : List Mark → A → A) (wb : List Mark → B → B) (user : Text) where
  pub begins_then : (does : List Mark → Meaning A) (next : A → Meaning B) → Begins wa user does → ((x : A) → Begins wb user (λ marks. next (wa marks x)))
      → Begins wb user (λ marks. does marks >>= next)
  begins_then does next (at_once x e) each = by_next (each x)
    where
      by_next : Begins wb user (λ marks. next (wa marks x)) → Begins wb user (λ marks. does marks >>= next)
      by_next (at_once y k) = at_once y (λ later. ap (λ m. m >>= next) (e later) ∙ k later)
      by_next (in_deed w d is k ran ends) =
          in_deed w d is (ap (λ m. m >>= next) (e []) ∙ k) ran
          (λ m fit.
          ends_as wb (λ marks. next (wa (m ∷ marks) x)) (λ marks. does (m ∷ marks) >>= next) (λ marks. ap (λ y. y >>= next) (sym (e (m ∷ marks))))
          (ends m fit))
  begins_then does next (in_deed w d is e ran ends) each =
      in_deed w d is (ap (λ m. m >>= next) e) ran
      (λ m fit. ends_then wa wb (λ marks. does (m ∷ marks)) next (ends m fit) (λ x. ends_of wb user (λ marks. next (wa marks x)) (each x)))

  pub begins_mapped : (does : List Mark → Meaning A) (f : A → B) → ((marks : List Mark) (x : A) → f (wa marks x) ≡ wb marks (f x)) → Begins wa user does
      → Begins wb user (λ marks. mapped f (does marks))
  begins_mapped does f same (at_once x e) = at_once (f x) (λ later. ap (mapped f) (e later) ∙ ap gives (same later x))
  begins_mapped does f same (in_deed w d is e ran ends) =
      in_deed w d is (ap (mapped f) e) ran (λ m fit. ends_mapped wa wb (λ marks. does (m ∷ marks)) f same (ends m fit))

pub begins_behind : {A : Type 0} (with : List Mark → A → A) (user : Text) (cs : List Call) (does : List Mark → Meaning A) → Begins with user does
    → Begins with user (λ marks. behind cs (does marks))
begins_behind with user cs does (at_once x e) = at_once x (λ later. ap (behind cs) (e later))
begins_behind with user cs does (in_deed w d is e ran ends) =
    in_deed (record w { undo = cs ++ w.undo }) d is (ap (behind cs) e) ran (λ m fit. ends_behind with cs (λ marks. does (m ∷ marks)) (ends m fit))

-- the same of what does the same
pub begins_as : {A : Type 0} (with : List Mark → A → A) (user : Text) (v w : List Mark → Meaning A) → ((marks : List Mark) → v marks ≡ w marks)
    → Begins with user v → Begins with user w
begins_as with user v w same (at_once x e) = at_once x (λ later. sym (same later) ∙ e later)
begins_as with user v w same (in_deed wait d is e ran ends) =
    in_deed wait d is (sym (same []) ∙ e) ran
    (λ m fit. ends_as with (λ marks. v (m ∷ marks)) (λ marks. w (m ∷ marks)) (λ marks. same (m ∷ marks)) (ends m fit))
