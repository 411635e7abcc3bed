-- An operation of a request that sends no bytes: what there is to do behind it.
use Rattle.std.proofs.Common.{◌≡◌, ℕ, Bool, true, false, List, [], ◌++◌, Option, Some, None, Result, Ok, Err, refl, sym, ap, ◌∙◌, append_assoc}
use Rattle.std.specs.Prelude.{⊤}
use Rattle.std.proofs.lemmas.List.{append-nil}
use Rattle.grid_model.specs.Names.{Text}
use Rattle.grid_model.specs.Meanings.{Meaning, mapped, waits, ◌>>=◌}
use Rattle.grid_model.specs.Doing.{Course, Did}
use Rattle.grid_model.specs.Operations.Table.{Operation}
use Rattle.grid_model.specs.Points.{Point}
use Rattle.grid_model.specs.Sessions.{State}
use Rattle.grid_model.specs.Working.{Sent, Worked, after_work, end_of, running, sent_by, words_of}
use Rattle.grid_model.specs.Runs.{Request, does}
use Rattle.grid_model.specs.declared.marks.Mark.{Mark}
use Rattle.grid_model.specs.declared.refusal.Failure.{Failure}
use Rattle.grid_model.specs.declared.refusal.Failure.TheVariants.{Stopped}
use Rattle.chain_core.specs.Answers.{failure_in}
use Rattle.chain_run.specs.Places.{Brings, Place, course_at}
use Rattle.deed_run.specs.Puts.{does_op}
use Rattle.service_run.specs.Commands.{WaitsAt, waiting_at}
use Rattle.service_run.specs.Steps.{ComesTo}
use Rattle.point_laws.specs.Works.{operation}
use Rattle.work_run.specs.Behind.{IsBehind, IsEnded, Said, from_work, from_worked}
use Rattle.work_run.proofs.Ends.{ending_is, rows_failed}
use Rattle.work_run.proofs.Stopping.{op_halts}

pub down : (b : Bool) → (b ≡ true → ⊥) → b ≡ false
down true on = absurd (on refl)
down false on = refl

module _ (at : State) (request : Request) (user : Text) (op : Operation) (silent : (s : Course) → sent_by s user op ≡ None) (p : Option Point)
    (taken : List Mark) (q : Place) (b : ℕ) (behind : IsBehind at request taken q b (from_work at p user (operation op))) where
  abbrev worked_in : Course → Did → Worked
  worked_in s d = record { state = d.state; failure = d.failure; words = words_of s.grid user op; rows = []; sent = sent_by s user op }

  -- where it waits the request does
  pub waits_there : WaitsAt (does_op user op) q (running op) → does at request taken ≡ waits (record (waiting_at q (running op)) { undo = [] })
  waits_there its =
      ap (does at request) (sym (append-nil taken))
      ∙ behind []
      ∙ ap (λ (m : Meaning Did). mapped (worked_in (course_at q [] b false)) m >>= after_work at p) (its b).0

  module _ (r : Place) (ran : Result ⊤ Failure) (brings : Brings (ComesTo (does_op user op) ran) q r) where
    abbrev left : List Mark → Bool
    left later = (brings.did later b false).0

    abbrev worked_as : Course → Option Sent → Worked
    worked_as s sent = record { state = s; failure = failure_in ran; words = words_of q.grid user op; rows = []; sent = sent }

    came : (later : List Mark) → does at request ((taken ++ brings.marks) ++ later) ≡ after_work at p (worked_as (course_at r later b (left later)) None)
    came later =
        let s = course_at q (brings.marks ++ later) b false in
        ap (does at request) (append_assoc taken brings.marks later)
        ∙ behind (brings.marks ++ later)
        ∙ ap (λ (m : Meaning Did). mapped (worked_in s) m >>= after_work at p) (brings.did later b false).1
        ∙ ap (λ (o : Option Sent). after_work at p (worked_as (course_at r later b (left later)) o)) (silent s)

    halts : (later : List Mark) → left later ≡ true → failure_in ran ≡ Some Stopped
    halts later =
        op_halts user op (course_at q (brings.marks ++ later) b false)
        (record { state = course_at r later b (left later); failure = failure_in ran }) refl (brings.did later b false).1

  -- what it says
  abbrev pub its_words : Said
  its_words = record { words = words_of q.grid user op; rows = []; sent = None }

  -- it was done
  pub worked_well : (r : Place) (brings : Brings (ComesTo (does_op user op) (Ok tt)) q r)
      → IsBehind at request (taken ++ brings.marks) r b (from_worked at p its_words)
  worked_well r brings later =
      came r (Ok tt) brings later
      ∙ ap (λ (t : Bool). from_worked at p its_words (course_at r later b t))
      (down (left r (Ok tt) brings later) (λ on. (let both = halts r (Ok tt) brings later on in cc both)))

  -- it failed
  pub worked_failed : (r : Place) (f : Failure) (brings : Brings (ComesTo (does_op user op) (Err f)) q r)
      → IsEnded at request (taken ++ brings.marks) r [] None (end_of f)
  worked_failed r f brings = record {
    begun = b;
    stopped = left r (Err f) brings [];
    found = [];
    told = end_of f;
    does_so = ap (does at request) (sym (append-nil (taken ++ brings.marks))) ∙ came r (Err f) brings [];
    rows_are = rows_failed (course_at r [] b (left r (Err f) brings [])) f;
    end_is = ending_is (course_at r [] b (left r (Err f) brings [])) f (λ on. (let same = halts r (Err f) brings [] on in (let is : f ≡ Stopped = cc same in is)));
  }
