-- A get of a request: where it waits, and what there is to do behind the file that it sent.
use Rattle.std.proofs.Common.{◌≡◌, ℕ, Bool, true, false, List, [], ◌∷◌, ◌++◌, Option, Some, None, length, Ok, Err, refl, sym, ap, ◌∙◌, append_assoc}
use Rattle.std.specs.Prelude.{decimal}
use Rattle.std.proofs.lemmas.List.{append-nil}
use Rattle.grid_model.specs.Names.{Path, Text}
use Rattle.grid_model.specs.Grid.{Grid}
use Rattle.grid_model.specs.Meanings.{Meaning, mapped, waits, ◌>>=◌}
use Rattle.grid_model.specs.Refusing.{Or}
use Rattle.grid_model.specs.Deeds.{by_mark, fits, is_stop, sending}
use Rattle.grid_model.specs.Doing.{Course, Did, do_act, taking, where_mark_fits, with_result}
use Rattle.grid_model.specs.Operations.Replicas.{Source, got}
use Rattle.grid_model.specs.Operations.Table.{get as fetch}
use Rattle.grid_model.specs.Points.{Point}
use Rattle.grid_model.specs.Rows.{Cat}
use Rattle.grid_model.specs.RowGrids.{grid_of}
use Rattle.grid_model.specs.Sessions.{State}
use Rattle.grid_model.specs.Working.{Done, Sent, Worked, after_work, end_of, running}
use Rattle.grid_model.specs.Runs.{Request, does}
use Rattle.grid_model.specs.declared.calls.Call.{Call}
use Rattle.grid_model.specs.declared.marks.BadReplica.{BadReplica}
use Rattle.grid_model.specs.declared.marks.Mark.{Mark}
use Rattle.grid_model.specs.declared.marks.Mark.TheVariants.{Ran, Fault, Bad, Stop}
use Rattle.grid_model.specs.declared.plans.OldFile.{OldFile}
use Rattle.grid_model.specs.declared.refusal.Failure.{Failure}
use Rattle.grid_model.specs.declared.refusal.Failure.TheVariants as failure
use Rattle.grid_model.specs.declared.refusal.Refusal.TheVariants as refusal
use Rattle.chain_run.specs.Places.{Place, course_at}
use Rattle.deed_run.specs.Puts.{does_op}
use Rattle.plan_object.specs.Sending.{Sends}
use Rattle.point_laws.specs.Works.{operation}
use Rattle.service_run.specs.Commands.{WaitsAt, waiting_at}
use Rattle.service_run.specs.SentFiles.{failed_by, sending_of}
use Rattle.work_run.specs.Behind.{IsBehind, IsEnded, Said, from_work, from_worked}
use Rattle.work_run.proofs.Ends.{ending_is, rows_failed}
use Rattle.work_run.proofs.GetActs.{act_of, deed_of}

module _ (at : State) (request : Request) (user : Text) (path : Path) (asked : Option Text) (p : Option Point) (taken : List Mark) (q : Place) (b : ℕ)
    (behind : IsBehind at request taken q b (from_work at p user (operation (fetch path asked)))) (c : Cat) (grid_is : q.grid ≡ grid_of c) (file : OldFile)
    (sends : Sends c user path asked file) where
  got_is : got q.grid user path asked ≡ Ok sends.from
  got_is = ap (λ (g : Grid). got g user path asked) grid_is ∙ sends.is

  -- what it does by what was found
  abbrev worked_by : Or Source → Did → Worked
  worked_by r d = record {
    state = d.state;
    failure = d.failure;
    words = elim r [ Ok from ↦ decimal from.number ∷ [] | Err e ↦ [] ];
    rows = [];
    sent = elim r [ Ok from ↦ Some (record { size = from.object.size; digest = from.object.digest; before = length q.taken }) | Err e ↦ None ];
  }

  abbrev c_get : Call
  c_get = running (fetch path asked)

  abbrev goes_by : Or Source → Course → Meaning Done
  goes_by r s = mapped (worked_by r) (do_act c_get s (act_of q.grid r)) >>= after_work at p

  -- where it waits, the request does
  pub waits_op : WaitsAt (does_op user (fetch path asked)) q c_get
  waits_op begun = (
    ap (λ (r : Or Source). do_act c_get (course_at q [] begun false) (act_of q.grid r)) got_is,
    ap (λ (r : Or Source). do_act c_get (course_at q [] begun true) (act_of q.grid r)) got_is,
  )

  pub waits_request : does at request taken ≡ waits (waiting_at q c_get)
  waits_request =
      ap (does at request) (sym (append-nil taken))
      ∙ behind []
      ∙ ap (λ (r : Or Source). goes_by r (course_at q [] b false)) got_is

  -- ---- behind its mark

  -- what it says, shows and sends
  abbrev pub its_sent : Sent
  its_sent = record { size = file.size; digest = file.digest; before = length q.taken }

  abbrev pub its_said : Said
  its_said = record { words = decimal file.number ∷ []; rows = []; sent = Some its_sent }

  -- how far it has come behind the mark
  abbrev pub course_behind : Mark → List Mark → Course
  course_behind m later = record {
    grid = q.grid;
    marks = later;
    taken = q.taken ++ m ∷ [];
    begun = b;
    passed = q.passed;
    stopped = is_stop m;
  }

  -- with the failure that the mark tells
  abbrev pub worked_with : Mark → List Mark → Worked
  worked_with m later = record {
    state = course_behind m later;
    failure = failed_by file m;
    words = decimal file.number ∷ [];
    rows = [];
    sent = Some its_sent;
  }

  said_as : (m : Mark) (later : List Mark)
      → worked_by (Ok sends.from) (with_result (taking (course_at q (m ∷ later) b false) m later) (by_mark (deed_of q.grid sends.from) m)) ≡ worked_with m later
  said_as (Ran word now bad) later i = record {
    state = course_behind (Ran word now bad) later;
    failure = None;
    words = decimal (sym sends.number i) ∷ [];
    rows = [];
    sent = Some (record { size = sym sends.size i; digest = sym sends.digest i; before = length q.taken });
  }
  said_as (Fault slot parts) later i = record {
    state = course_behind (Fault slot parts) later;
    failure = Some (failure.Refused (refusal.Fault slot));
    words = decimal (sym sends.number i) ∷ [];
    rows = [];
    sent = Some (record { size = sym sends.size i; digest = sym sends.digest i; before = length q.taken });
  }
  said_as (Bad slot len found parts) later i = record {
    state = course_behind (Bad slot len found parts) later;
    failure = Some (failure.Refused (refusal.Damaged slot (sym sends.size i) (sym sends.digest i) len found));
    words = decimal (sym sends.number i) ∷ [];
    rows = [];
    sent = Some (record { size = sym sends.size i; digest = sym sends.digest i; before = length q.taken });
  }
  said_as Stop later i = record {
    state = course_behind Stop later;
    failure = Some failure.Stopped;
    words = decimal (sym sends.number i) ∷ [];
    rows = [];
    sent = Some (record { size = sym sends.size i; digest = sym sends.digest i; before = length q.taken });
  }

  -- a stop is told as one, and nothing else
  halts : (m : Mark) (f : Failure) → is_stop m ≡ true → failed_by file m ≡ Some f → f ≡ failure.Stopped
  halts (Ran word now bad) f on some = absurd (cc on)
  halts (Fault slot parts) f on some = absurd (cc on)
  halts (Bad slot len found parts) f on some = absurd (cc on)
  halts Stop f on some = let same : failure.Stopped ≡ f = cc some in sym same

  unstopped : (m : Mark) → failed_by file m ≡ None → is_stop m ≡ false
  unstopped (Ran word now bad) none = refl
  unstopped (Fault slot parts) none = absurd (cc none)
  unstopped (Bad slot len found parts) none = absurd (cc none)
  unstopped Stop none = absurd (cc none)

  module _ (m : Mark) (mark_fits : (ran : ℕ → ℕ → List BadReplica → Grid) → fits (sending_of file ran) m ≡ true) where
    fits_so : fits (deed_of q.grid sends.from) m ≡ true
    fits_so =
        (λ i. fits (record { size = sym sends.size i; digest = sym sends.digest i; ran = λ word now _. q.grid; touch = sending (sym sends.slot i) }) m)
        ∙ mark_fits (λ word now _. q.grid)

    pub came_next : (later : List Mark) → does at request (taken ++ (m ∷ later)) ≡ after_work at p (worked_with m later)
    came_next later =
        let s : Course = course_at q (m ∷ later) b false in
        let did : Did = with_result (taking s m later) (by_mark (deed_of q.grid sends.from) m) in
        behind (m ∷ later)
        ∙ ap (λ (r : Or Source). goes_by r s) got_is
        ∙ ap (λ (f : Bool). mapped (worked_by (Ok sends.from)) (where_mark_fits f did) >>= after_work at p) fits_so
        ∙ ap (after_work at p) (said_as m later)

    came : (later : List Mark) → does at request ((taken ++ m ∷ []) ++ later) ≡ after_work at p (worked_with m later)
    came later = ap (does at request) (append_assoc taken (m ∷ []) later) ∙ came_next later

    -- it was sent
    pub sent_well : failed_by file m ≡ None → (r : Place) → ((later : List Mark) (stopped : Bool) → is_stop m ≡ stopped
        → course_behind m later ≡ course_at r later b stopped) → IsBehind at request (taken ++ m ∷ []) r b (from_worked at p its_said)
    sent_well none r place later =
        came later
        ∙ (λ i. after_work at p (record {
          state = place later false (unstopped m none) i;
          failure = none i;
          words = decimal file.number ∷ [];
          rows = [];
          sent = Some its_sent;
        }))

    -- it was refused, or stopped
    pub sent_failed : (f : Failure) → failed_by file m ≡ Some f → (r : Place) → ((later : List Mark) (stopped : Bool) → is_stop m ≡ stopped
        → course_behind m later ≡ course_at r later b stopped) → IsEnded at request (taken ++ m ∷ []) r [] (Some its_sent) (end_of f)
    sent_failed f some r place = record {
      begun = b;
      stopped = is_stop m;
      found = [];
      told = end_of f;
      does_so = ap (does at request) (sym (append-nil (taken ++ m ∷ [])))
          ∙ came []
          ∙ (λ i. after_work at p (record {
            state = place [] (is_stop m) refl i;
            failure = some i;
            words = decimal file.number ∷ [];
            rows = [];
            sent = Some its_sent;
          }));
      rows_are = rows_failed (course_at r [] b (is_stop m)) f;
      end_is = ending_is (course_at r [] b (is_stop m)) f (λ on. halts m f on some);
    }
