-- What a command has still to do can be brought to an end, from the start, amid it, and behind a mark.
use Rattle.std.proofs.Common.{◌≡◌, ℕ, Bool, true, false, List, [], ◌∷◌, ◌++◌, Option, Some, None, refl, sym, ◌∙◌, ap, subst, append-nil, append_assoc}
use Rattle.std.specs.Prelude.{Result, Ok, Err}
use Rattle.grid_model.specs.Bounds.{deepest}
use Rattle.grid_model.specs.Names.{Text}
use Rattle.grid_model.specs.Grid.{Grid}
use Rattle.grid_model.specs.RuleText.{Rule}
use Rattle.grid_model.specs.Meanings.{Meaning, Waiting, gives, waits}
use Rattle.grid_model.specs.Deeds.{Deed, by_mark, fits}
use Rattle.grid_model.specs.Values.{Env, Value}
use Rattle.grid_model.specs.Doing.{Course, Did, do_call, take_mark, taking, where_mark_fits, with_result}
use Rattle.grid_model.specs.Chains.{Named, call_rule}
use Rattle.grid_model.specs.declared.calls.Call.{Call}
use Rattle.grid_model.specs.declared.marks.Mark.{Mark}
use Rattle.grid_model.specs.declared.refusal.Failure.{Failure}
use Rattle.grid_model.specs.declared.refusal.Failure.TheVariants.{Refused, Code, NoRule, Depth, Spent, LongText, Stopped}
use Rattle.grid_model.proofs.MeaningLemmas.{gives_is, gives_not_waits, unfit_not_gives, waits_is}
use Rattle.chain_core.specs.Rest.{course}
use Rattle.chain_core.specs.Answers.{failure_in, noted}
use Rattle.chain_core.specs.declared.frames.Frames.{Frames}
use Rattle.chain_run.specs.Calls.{Made}
use Rattle.chain_run.specs.Places.{Place, Performs, Recovers, course_at, course_from}
use Rattle.chain_run.specs.Runs.{IsDue, by_itself, rest_from}
use Rattle.chain_laws.specs.Ending.{CallsComplete, Completes, MachinesComplete, NamesComplete}
use Rattle.chain_laws.specs.Ending.{PerformedCompletes, RecoveredCompletes, WaitingCompletes, WaitsIn, waiting_at}
use Rattle.chain_laws.proofs.Beginnings.{Begins, Ends, IsDeedOf, at_once, did_with, ends_of, in_deed, named_with, with_marks}
use Rattle.chain_laws.proofs.Recoveries.{CallBegins, call_begins, call_waits, takes_none, takes_one}
use Rattle.chain_laws.proofs.Chains.{begins_within}
use Rattle.chain_laws.proofs.Frames.{begins_by_itself, begins_rest}

completes_of : (does : List Mark → Meaning Named) → Ends named_with does → Completes does
completes_of does h = record { rest = h.marks; ran = h.ran; end = h.to; gives_so = h.ends }

-- the same of what does the same
pub completes_as : (v w : List Mark → Meaning Named) → ((marks : List Mark) → v marks ≡ w marks) → Completes v → Completes w
completes_as v w same h = record { rest = h.rest; ran = h.ran; end = h.end; gives_so = λ later. sym (same (h.rest ++ later)) ∙ h.gives_so later }

-- ---- from where the machine stands, and from the start

pub machines_complete : MachinesComplete
machines_complete rules env m p =
    completes_of (rest_from rules env m p) (ends_of named_with env.user (rest_from rules env m p) (begins_rest rules env m (course_from p [])))

-- from any course on, whichever marks it has left
pub name_completes : (rules : List Rule) (env : Env) (name : Text) (args : List Text) (s : Course)
    → Completes (λ marks. call_rule rules env name args (with_marks marks s))
name_completes rules env name args s =
    completes_of (λ marks. call_rule rules env name args (with_marks marks s))
    (ends_of named_with env.user (λ marks. call_rule rules env name args (with_marks marks s)) (begins_within deepest rules env name args s))

pub itself_completes : (rules : List Rule) (env : Env) (c : Call) (vs : List Value) (s : Course)
    → Completes (λ marks. by_itself rules env c vs (with_marks marks s))
itself_completes rules env c vs s =
    completes_of (λ marks. by_itself rules env c vs (with_marks marks s))
    (ends_of named_with env.user (λ marks. by_itself rules env c vs (with_marks marks s)) (begins_by_itself rules env c vs s))

pub names_complete : NamesComplete
names_complete rules env name args m p = name_completes rules env name args (course m (course_from p []))

pub calls_complete : CallsComplete
calls_complete rules env c vs m p = itself_completes rules env c vs (course m (course_from p []))

-- ---- behind the mark of a deed

-- a mark that was taken fits
fits_where : (b : Bool) (x did : Did) → where_mark_fits b x ≡ gives did → b ≡ true
fits_where true x did e = refl
fits_where false x did e = absurd (unfit_not_gives e)

fits_taken : (c : Call) (s : Course) (d : Deed) (m : Mark) (rest : List Mark) (did : Did) → take_mark c s d (m ∷ rest) ≡ gives did → fits d m ≡ true
fits_taken c s d m rest did e = fits_where (fits d m) (with_result (taking s m rest) (by_mark d m)) did e

pub waiting_completes : WaitingCompletes
waiting_completes rules env m p w e mark takes = by_begin (begins_rest rules env m (course_from p []))
  where
    by_deed : (d : Deed) (w2 : Waiting) → w2 ≡ w → IsDeedOf env.user w2 d → fits d mark ≡ true
    by_deed d w2 same is =
        let of : IsDeedOf env.user w d = subst (λ x. IsDeedOf env.user x d) same is in
        fits_taken w.call (waiting_at w (mark ∷ [])) d mark [] takes.0 (sym (of (waiting_at w (mark ∷ [])) refl) ∙ takes.1)

    by_begin : Begins named_with env.user (rest_from rules env m p) → Completes (λ later. rest_from rules env m p (mark ∷ later))
    by_begin (at_once x k) = absurd (gives_not_waits (sym (k []) ∙ e))
    by_begin (in_deed w2 d is k ran each) =
        completes_of (λ later. rest_from rules env m p (mark ∷ later)) (each mark (by_deed d w2 (waits_is (sym k ∙ e)) is))

-- ---- behind a call

-- With these marks, and any others behind them, the call is done there, whatever it failed with, and leaves the others.
pub record TakesAll (user : Text) (c : Call) (p : Place) (marks : List Mark) : Type 0 where
  pub did : (later : List Mark) (begun : ℕ) (stopped : Bool) → Did
  pub done : (later : List Mark) (begun : ℕ) (stopped : Bool)
      → do_call user c (course_at p (marks ++ later) begun stopped) ≡ gives (did later begun stopped)
  pub left : (later : List Mark) (begun : ℕ) (stopped : Bool) → (did later begun stopped).state.marks ≡ later

-- marks that a deed leaves behind its own
result_marks : (s : Course) (r : Result Grid Failure) → (with_result s r).state.marks ≡ s.marks
result_marks s (Ok g) = refl
result_marks s (Err f) = refl

fitted : (b : Bool) (x did : Did) → where_mark_fits b x ≡ gives did → x ≡ did
fitted true x did e = gives_is e
fitted false x did e = absurd (unfit_not_gives e)

-- a deed leaves all but the first
left_behind : (c : Call) (s : Course) (d : Deed) (m : Mark) (rest : List Mark) (did : Did) → take_mark c s d (m ∷ rest) ≡ gives did → did.state.marks ≡ rest
left_behind c s d m rest did e =
    ap (λ (x : Did). x.state.marks) (sym (fitted (fits d m) (with_result (taking s m rest) (by_mark d m)) did e)) ∙ result_marks (taking s m rest) (by_mark d m)

none_left : (m : Mark) (ms : List Mark) → m ∷ ms ≡ [] → ⊥
none_left m ms e = absurd cc

module _ (rules : List Rule) (env : Env) (m : Frames) (p : Place) (c : Call) where
  abbrev start : Course
  start = course m (course_from p [])

  -- a call that takes none leaves them all
  took_none : (mark : Mark) (ms : List Mark) (did : Did)
      → do_call env.user c (with_marks ((mark ∷ ms) ++ []) start) ≡ gives (did_with ((mark ∷ ms) ++ []) did) → ¬ TakesAll env.user c p (mark ∷ ms)
  took_none mark ms did e takes =
      none_left mark (ms ++ [])
      (ap (λ (x : Did). x.state.marks) (gives_is (sym e ∙ takes.done [] m.begun m.stopped)) ∙ takes.left [] m.begun m.stopped)

  module _ (d : Deed) (of : (t : Course) → t.grid ≡ p.grid → do_call env.user c t ≡ take_mark c t d t.marks) where
    -- a call that is a deed takes one
    took_one : (mark : Mark) (ms : List Mark) → TakesAll env.user c p (mark ∷ ms) → (fits d mark ≡ true) × (ms ≡ [])
    took_one mark ms takes =
        let all : Course = course_at p ((mark ∷ ms) ++ []) m.begun m.stopped in
        let done = sym (of all refl) ∙ takes.done [] m.begun m.stopped in (
          fits_taken c all d mark (ms ++ []) (takes.did [] m.begun m.stopped) done,
          sym (append-nil ms) ∙ sym (left_behind c all d mark (ms ++ []) (takes.did [] m.begun m.stopped) done) ∙ takes.left [] m.begun m.stopped,
        )

    behind_one : WaitsIn rules env m p c → (mark : Mark) → fits d mark ≡ true → Completes (λ later. rest_from rules env m p (mark ∷ later))
    behind_one waits_in mark fit = by_list (waits_in (call_waits c start) (of start refl))
      where
        by_list : (us : List Call) × (rest_from rules env m p [] ≡ waits (record (call_waits c start) { undo = us }))
            → Completes (λ later. rest_from rules env m p (mark ∷ later))
        by_list all =
            let w : Waiting = record (call_waits c start) { undo = all.0 } in
            let did : Did = with_result (taking (waiting_at w (mark ∷ [])) mark []) (by_mark d mark) in
            waiting_completes rules env m p w all.1 mark (did, of (waiting_at w (mark ∷ [])) refl ∙ ap (λ b. where_mark_fits b did) fit)

  pub behind_marks : WaitsIn rules env m p c → (marks : List Mark) → TakesAll env.user c p marks → Completes (λ later. rest_from rules env m p (marks ++ later))
  behind_marks waits_in [] takes = machines_complete rules env m p
  behind_marks waits_in (mark ∷ ms) takes = by_call (call_begins env.user c start)
    where
      by_call : CallBegins env.user c start → Completes (λ later. rest_from rules env m p ((mark ∷ ms) ++ later))
      by_call (takes_none did on e) = absurd (took_none mark ms did (e ((mark ∷ ms) ++ [])) takes)
      by_call (takes_one d of) =
          let one = took_one d of mark ms takes in
          completes_as (λ later. rest_from rules env m p (mark ∷ later)) (λ later. rest_from rules env m p ((mark ∷ ms) ++ later))
          (λ later. ap (λ xs. rest_from rules env m p (mark ∷ (xs ++ later))) (sym one.1)) (behind_one d of waits_in mark one.0)

-- ---- behind a call that was performed, or run as a recovery

performs_all : (c : Call) (r : Result Unit Failure) (p q : Place) (did : Performs c r p q) → TakesAll p.user c p did.marks
performs_all c r p q did = record {
  did = λ later b f. record { state = course_at q later b (did.did later b f).0; failure = failure_in r };
  done = λ later b f. (did.did later b f).1;
  left = λ later b f. refl;
}

noted_marks : (c : Call) (y : Option Failure) (s : Course) → (noted c y s).marks ≡ s.marks
noted_marks c None s = refl
noted_marks c (Some (Refused r)) s = refl
noted_marks c (Some (Code z)) s = refl
noted_marks c (Some NoRule) s = refl
noted_marks c (Some Depth) s = refl
noted_marks c (Some Spent) s = refl
noted_marks c (Some LongText) s = refl
noted_marks c (Some Stopped) s = refl

recovers_all : (c : Call) (y : Option Failure) (p q : Place) (did : Recovers c y p q) → TakesAll p.user c p did.brings.marks
recovers_all c y p q did = record {
  did = λ later b f. record { state = (did.brings.did later b f).1.state; failure = y };
  done = λ later b f. (did.brings.did later b f).1.done;
  left = λ later b f. sym (noted_marks c y (did.brings.did later b f).1.state) ∙ ap (λ (s : Course). s.marks) (sym (did.brings.did later b f).1.left);
}

pub performed_completes : PerformedCompletes
performed_completes rules env m p q c r user waits_in did =
    behind_marks rules env m p c waits_in did.marks (subst (λ u. TakesAll u c p did.marks) (sym user) (performs_all c r p q did))

pub recovered_completes : RecoveredCompletes
recovered_completes rules env m p q c y user waits_in did =
    behind_marks rules env m p c waits_in did.brings.marks (subst (λ u. TakesAll u c p did.brings.marks) (sym user) (recovers_all c y p q did))

-- ---- a call that was due

module _ {Stop : Type 0} (rules : List Rule) (env : Env) (whole : List Mark → Meaning Named) (from : Place) (x : Made Stop)
    (due : IsDue rules env whole from x) where
  -- where it is made
  pub due_completes : Completes (λ later. whole (due.reached.marks ++ later))
  due_completes =
      completes_as (rest_from rules env due.machine x.place) (λ later. whole (due.reached.marks ++ later)) due.reached.same
      (machines_complete rules env due.machine x.place)

  due_waits : WaitsIn rules env due.machine x.place x.call
  due_waits w e = (x.undo, due.reached.same [] ∙ due.waits_so [] w e)

  -- behind these marks of it
  behind_due : (marks : List Mark) → Completes (λ later. rest_from rules env due.machine x.place (marks ++ later))
      → Completes (λ later. whole ((due.reached.marks ++ marks) ++ later))
  behind_due marks h =
      completes_as (λ later. rest_from rules env due.machine x.place (marks ++ later)) (λ later. whole ((due.reached.marks ++ marks) ++ later))
      (λ later. due.reached.same (marks ++ later) ∙ ap whole (sym (append_assoc due.reached.marks marks later))) h

  -- once it was performed
  pub due_performed : (r : Result Unit Failure) (to : Place) → env.user ≡ x.place.user → (did : Performs x.call r x.place to)
      → Completes (λ later. whole ((due.reached.marks ++ did.marks) ++ later))
  due_performed r to user did =
      behind_due did.marks (performed_completes rules env due.machine x.place to x.call r user due_waits did)

  -- once it was run as a recovery
  pub due_recovered : (y : Option Failure) (to : Place) → env.user ≡ x.place.user → (did : Recovers x.call y x.place to)
      → Completes (λ later. whole ((due.reached.marks ++ did.brings.marks) ++ later))
  due_recovered y to user did =
      behind_due did.brings.marks (recovered_completes rules env due.machine x.place to x.call y user due_waits did)
