-- What a request comes to that does an operation or shows rows with its points.
use Rattle.std.proofs.Common.{◌≡◌, ℕ, zero, suc, ◌≤◌, Bool, true, false, List, [], ◌∷◌, ◌++◌, Option, Some, None, length, refl, sym, ap, ◌∙◌, subst}
use Rattle.std.proofs.Common.{append_assoc, arith}
use Rattle.std.specs.Prelude.{take}
use Rattle.std.proofs.lemmas.List.{append-nil}
use Rattle.grid_model.specs.DataLines.{data_lines}
use Rattle.grid_model.specs.Names.{Text}
use Rattle.grid_model.specs.Meanings.{gives}
use Rattle.grid_model.specs.Doing.{Course}
use Rattle.grid_model.specs.Sessions.{State}
use Rattle.grid_model.specs.Working.{Done, Sent, done, end_of, ending, rows_shown}
use Rattle.grid_model.specs.Runs.{Request, does}
use Rattle.grid_model.specs.declared.marks.Mark.{Mark}
use Rattle.grid_model.specs.declared.refusal.Failure.{Failure}
use Rattle.grid_model.specs.declared.refusal.Failure.TheVariants.{Stopped}
use Rattle.grid_model.specs.declared.replies.End.{End}
use Rattle.grid_model.specs.declared.replies.End.TheVariants as end
use Rattle.grid_headline.specs.Stops.{AreFirst}
use Rattle.chain_run.specs.Places.{Place, course_at}
use Rattle.point_laws.specs.Works.{IsAskedSo, SendsBehind, Work, WorksEndByRows, WorksTakeInOrder}
use Rattle.service_run.specs.Steps.{lines_of}
use Rattle.rule_run.specs.Asked.{text_with}
use Rattle.rule_run.specs.Finishing.{reply_of}
use Rattle.rule_run.proofs.Handling.{DoesAll, IsCutEnd, IsWholeEnd, cut_before_data, plain_cut, plain_end, sent_cut, sent_end}
use Rattle.rule_run.proofs.Outcomes.{rows_none}
use Rattle.work_run.specs.Behind.{IsBehind, IsEnded, Said, from_worked}
use Rattle.work_run.specs.Telling.{TellsSo, tells_data, tells_lines}
use Rattle.work_run.specs.Works.{DoesSo}

-- ---- first marks

-- some first marks are the first of any more
first_take : (taken rest : List Mark) (count : ℕ) → length taken ≤ count → AreFirst taken (take count (taken ++ rest))
first_take [] rest count le = record { rest = take count rest; are = refl }
first_take (m ∷ taken) rest zero le = absurd (omega (arith, le))
first_take (m ∷ taken) rest (suc count) le =
    let its = first_take taken rest count (omega (arith, le)) in
    record { rest = its.rest; are = ap (λ (ms : List Mark). m ∷ ms) its.are }

first_within : (taken marks : List Mark) → AreFirst taken marks → (count : ℕ) → length taken ≤ count → AreFirst taken (take count marks)
first_within taken marks first count le =
    subst (λ (ms : List Mark). AreFirst taken (take count ms)) (sym first.are) (first_take taken first.rest count le)

-- ---- with the text that tells them

module _ (n : ℕ) (at : State) (request : Request) (known : ℕ → Type 0) where
  all_as : (marks other : List Mark) → marks ≡ other → (w : DoesAll at request marks) → (v : DoesAll at request other) × (v.d ≡ w.d)
  all_as marks other same w = subst (λ (ms : List Mark). (v : DoesAll at request ms) × (v.d ≡ w.d)) same (w, refl)

  -- it took all of its marks
  module _ (text_of : List Mark → Text) (sent : Option Sent) (taken : List Mark) (w : DoesAll at request taken) (sent_is : w.d.sent ≡ sent) where
    abbrev Whole : (List Mark → Text) → List Mark → Type 0
    Whole text marks = (v : IsWholeEnd n text at request known marks) × (v.d ≡ w.d)

    pub whole_as : TellsSo known n text_of sent taken → Whole text_of taken
    whole_as (tells_lines none text) =
        subst (λ (t : List Mark → Text). Whole t taken) (sym text) (plain_end n at request known taken w (sent_is ∙ none), refl)
    whole_as (tells_data s front m back bytes some are many sends text) =
        let v = all_as taken (front ++ m ∷ back) are w in
        let its : Whole (text_with n s.before (data_lines n bytes)) (front ++ m ∷ back) = (
          sent_end n at request known front m back bytes v.0 s (ap (λ (d : Done). d.sent) v.1 ∙ sent_is ∙ some) many sends,
          v.1,
        ) in
        subst (λ (t : List Mark → Text). Whole t taken) (sym text)
        (subst (Whole (text_with n s.before (data_lines n bytes))) (sym are) its)

  -- it was cut short behind marks among which bytes were sent, or none are
  module _ (text_of : List Mark → Text) (sent : Option Sent) (taken rest : List Mark) (w : DoesAll at request (taken ++ rest)) (sent_is : w.d.sent ≡ sent) where
    pub cut_as : TellsSo known n text_of sent taken → IsCutEnd n text_of at request known taken (taken ++ rest)
    cut_as (tells_lines none text) =
        subst (λ (t : List Mark → Text). IsCutEnd n t at request known taken (taken ++ rest)) (sym text)
        (plain_cut n at request known taken (taken ++ rest) w (sent_is ∙ none) (record { rest = rest; are = refl }))
    cut_as (tells_data s front m back bytes some are many sends text) =
        let all : taken ++ rest ≡ front ++ m ∷ (back ++ rest) = ap (λ (ms : List Mark). ms ++ rest) are ∙ append_assoc front (m ∷ back) rest in
        let v = all_as (taken ++ rest) (front ++ m ∷ (back ++ rest)) all w in
        let first : AreFirst taken (front ++ m ∷ (back ++ rest)) = record { rest = rest; are = sym all } in
        let C : (List Mark → Text) → List Mark → Type 0 = λ t ms. IsCutEnd n t at request known taken ms in
        subst (λ (t : List Mark → Text). C t (taken ++ rest)) (sym text)
        (subst (C (text_with n s.before (data_lines n bytes))) (sym all)
        (sent_cut n at request known front m (back ++ rest) bytes v.0 s (ap (λ (d : Done). d.sent) v.1 ∙ sent_is ∙ some) many sends taken first))

  -- it was cut short before it sent anything
  module _ (taken marks : List Mark) (first : AreFirst taken marks) (w : DoesAll at request marks) (sends : SendsBehind (length taken) w.d) where
    pub cut_before : IsCutEnd n (lines_of n) at request known taken marks
    cut_before = by w.d.sent refl
      where
        by : (o : Option Sent) → w.d.sent ≡ o → IsCutEnd n (lines_of n) at request known taken marks
        by None none = plain_cut n at request known taken marks w none first
        by (Some s) some =
            let its = sends s some in
            cut_before_data n at request known taken marks w s some (first_within taken marks first s.before its.0)
            (omega (arith, its.1, ap (λ (ms : List Mark). length ms) w.marks_are))

-- more marks behind those that are told so
pub tells_more : (known : ℕ → Type 0) (n : ℕ) (text_of : List Mark → Text) (sent : Option Sent) (taken more : List Mark)
    → TellsSo known n text_of sent taken → TellsSo known n text_of sent (taken ++ more)
tells_more known n text_of sent taken more (tells_lines none text) = tells_lines none text
tells_more known n text_of sent taken more (tells_data s front m back bytes some are many sends text) =
    tells_data s front m (back ++ more) bytes some (ap (λ (ms : List Mark). ms ++ more) are ∙ append_assoc front (m ∷ back) more) many sends text

-- ---- a request

module _ (at : State) (request : Request) (user : Text) (w : Work) (does_so : DoesSo at request user w) (asked_so : IsAskedSo w) (ends : WorksEndByRows) where
  -- at its end
  module _ (taken : List Mark) (p : Place) (rows : List (List Text)) (sent : Option Sent) (e : End) (same : p.taken ≡ taken)
      (its : IsEnded at request taken p rows sent e) where
    abbrev pub its_done : Done
    its_done = done at (course_at p [] its.begun its.stopped) [] its.found sent its.told

    abbrev pub does_all : DoesAll at request taken
    does_all = record {
      d = its_done;
      does_so = its.does_so;
      all = refl;
      marks_are = same;
      by_rows = λ clean. ends at user w taken its_done asked_so clean (sym (does_so taken) ∙ its.does_so);
    }

    pub its_reply : its_done.reply ≡ reply_of taken p.passed rows e
    its_reply = λ i. record {
      marks = same i;
      shown = [];
      passed = p.passed;
      rows = its.rows_are i;
      end = its.end_is i;
    }

  -- with marks of deeds behind those that were taken
  module _ (takes : WorksTakeInOrder) (marks : List Mark) (d : Done) (is : does at request marks ≡ gives d) (all : d.left ≡ []) where
    abbrev pub does_marks : DoesAll at request marks
    does_marks = record {
      d = d;
      does_so = is;
      all = all;
      marks_are = sym (append-nil d.reply.marks) ∙ ap (λ (ms : List Mark). d.reply.marks ++ ms) (sym all) ∙ takes at user w marks d (sym (does_so marks) ∙ is);
      by_rows = λ clean. ends at user w marks d asked_so clean (sym (does_so marks) ∙ is);
    }

-- a command that was stopped ends so anyhow
pub ending_is : (s : Course) (f : Failure) → (s.stopped ≡ true → f ≡ Stopped) → ending s (end_of f) ≡ end_of f
ending_is s f halts = by s.stopped refl
  where
    by : (b : Bool) → s.stopped ≡ b → ◌≡◌ {A = End} (elim b [ true ↦ end.Stopped | false ↦ end_of f ]) (end_of f)
    by true on = sym (ap end_of (halts on))
    by false off = refl

-- one that failed shows no rows
pub rows_failed : (s : Course) (f : Failure) → rows_shown s (end_of f) [] ≡ []
rows_failed s f = rows_none s (end_of f)

-- without rules behind it an operation that did not fail ends with what it says and shows
pub ended_alone : (at : State) (request : Request) (taken : List Mark) (p : Place) (b : ℕ) (said : Said)
    → IsBehind at request taken p b (from_worked at None said) → IsEnded at request taken p said.rows said.sent (end.Done said.words)
ended_alone at request taken p b said behind = record {
  begun = b;
  stopped = false;
  found = said.rows;
  told = end.Done said.words;
  does_so = ap (does at request) (sym (append-nil taken)) ∙ behind [];
  rows_are = refl;
  end_is = refl;
}
