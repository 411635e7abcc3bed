-- How a call and a recovery begin: a call takes one mark at most.
use Rattle.std.proofs.Common.{◌≡◌, ℕ, suc, true, false, List, [], ◌∷◌, length, Option, Some, None, refl, sym, ◌∙◌, ap}
use Rattle.std.specs.Prelude.{Result, Ok, Err}
use Rattle.grid_model.specs.Names.{Text}
use Rattle.grid_model.specs.Grid.{Grid, Replica}
use Rattle.grid_model.specs.Refusing.{Or}
use Rattle.grid_model.specs.Meanings.{Meaning, Waiting, gives, behind}
use Rattle.grid_model.specs.Deeds.{Act, Deed, Touch, changes, deed, writing, sending, copying, reading, by_mark, fits, are_bad, ran_fits}
use Rattle.grid_model.specs.Operations.Table.{Operation, row}
use Rattle.grid_model.specs.Services.{Service, nothing, operation, no_path, service}
use Rattle.grid_model.specs.Doing.{Course, Did, did_well, did_fail, with_result, where_mark_fits, taking, take_mark, do_act}
use Rattle.grid_model.specs.Doing.{do_service, do_call, undo_within, undo, back, after_undoing, pass_over}
use Rattle.grid_model.specs.declared.calls.Call.{Call}
use Rattle.grid_model.specs.declared.marks.Mark.{Mark}
use Rattle.grid_model.specs.declared.marks.Mark.TheVariants.{Ran, Fault, Bad, Stop}
use Rattle.grid_model.specs.declared.refusal.Refusal.TheVariants.{BadPath}
use Rattle.grid_model.specs.declared.refusal.Failure.{Failure}
use Rattle.grid_model.specs.declared.refusal.Failure.TheVariants.{Refused, Code, NoRule, Depth, Spent, LongText, Stopped}
use Rattle.grid_model.proofs.StoppingCalls.{goes_on}
use Rattle.chain_core.specs.Moves.{was_stopped}
use Rattle.chain_laws.proofs.Beginnings.{Begins, Ends, at_once, in_deed, begins_behind, begins_then, did_with, ends_as, ends_at_once, with_marks}

-- ---- marks of deeds that ran

none_bad : (read : List (ℕ × Replica)) → are_bad read [] ≡ true
none_bad [] = refl
none_bad (e ∷ es) = refl

ran_fits_each : (t : Touch) → ran_fits t [] ≡ true
ran_fits_each (writing slots) = refl
ran_fits_each (sending from) = refl
ran_fits_each (copying from slots) = refl
ran_fits_each (reading read slots) = none_bad read

-- each deed may have run
pub ran_fits_any : (d : Deed) → fits d (Ran 0 0 []) ≡ true
ran_fits_any d = ran_fits_each d.touch

-- ---- a call

-- It takes no mark, whichever are left, and is not stopped, or is a deed on such a grid.
pub data CallBegins (user : Text) (c : Call) (s : Course) : Type 0 where
  takes_none : (did : Did) → was_stopped did.failure ≡ false → ((later : List Mark) → do_call user c (with_marks later s) ≡ gives (did_with later did))
      → CallBegins user c s
  takes_one : (d : Deed) → ((t : Course) → t.grid ≡ s.grid → do_call user c t ≡ take_mark c t d t.marks) → CallBegins user c s

act_begins : (user : Text) (c : Call) (s : Course) (op : Operation) → service c ≡ Some (operation op) → (a : Or Act) → row s.grid user op ≡ a
    → CallBegins user c s
act_begins user c s op is a e = by_act a (λ t same. ap (λ x. do_service c user x t) is ∙ ap (λ g. do_act c t (row g user op)) same ∙ ap (do_act c t) e)
  where
    by_act : (a : Or Act) → ((t : Course) → t.grid ≡ s.grid → do_call user c t ≡ do_act c t a) → CallBegins user c s
    by_act (Err r) does = takes_none (did_fail s (Refused r)) refl (λ later. does (with_marks later s) refl)
    by_act (Ok (changes g)) does = takes_none (did_well (record s { grid = g })) refl (λ later. does (with_marks later s) refl)
    by_act (Ok (deed d)) does = takes_one d does

pub call_begins : (user : Text) (c : Call) (s : Course) → CallBegins user c s
call_begins user c s = by_service (service c) refl
  where
    by_service : (x : Option Service) → service c ≡ x → CallBegins user c s
    by_service None is = takes_none (did_fail s NoRule) refl (λ later. ap (λ x. do_service c user x (with_marks later s)) is)
    by_service (Some nothing) is = takes_none (did_well s) refl (λ later. ap (λ x. do_service c user x (with_marks later s)) is)
    by_service (Some (operation op)) is = act_begins user c s op is (row s.grid user op) refl
    by_service (Some (no_path place)) is =
        takes_none (did_fail s (Refused (BadPath place))) refl (λ later. ap (λ x. do_service c user x (with_marks later s)) is)

-- what a deed with the mark did, where no others are left
abbrev pub marked : Course → Deed → Mark → Did
marked s d m = with_result (taking s m []) (by_mark d m)

result_with : (s : Course) (m : Mark) (later : List Mark) (r : Result Grid Failure)
    → with_result (taking s m later) r ≡ did_with later (with_result (taking s m []) r)
result_with s m later (Ok g) = refl
result_with s m later (Err f) = refl

-- where the call waits
abbrev pub call_waits : Call → Course → Waiting
call_waits c s = record { call = c; grid = s.grid; taken = s.taken; passed = s.passed; undo = [] }

module _ (user : Text) (c : Call) (s : Course) (d : Deed) (is : (t : Course) → t.grid ≡ s.grid → do_call user c t ≡ take_mark c t d t.marks) where
  -- with a mark that fits it is done
  pub call_marked : (m : Mark) → fits d m ≡ true → (later : List Mark) → do_call user c (with_marks (m ∷ later) s) ≡ gives (did_with later (marked s d m))
  call_marked m fit later =
      is (with_marks (m ∷ later) s) refl
      ∙ ap (λ b. where_mark_fits b (with_result (taking s m later) (by_mark d m))) fit
      ∙ ap gives (result_with s m later (by_mark d m))

pub begins_call : (user : Text) (c : Call) (s : Course) → Begins did_with user (λ marks. do_call user c (with_marks marks s))
begins_call user c s = by_call (call_begins user c s)
  where
    by_call : CallBegins user c s → Begins did_with user (λ marks. do_call user c (with_marks marks s))
    by_call (takes_none did on e) = at_once did e
    by_call (takes_one d is) =
        in_deed (call_waits c s) d is (is (with_marks [] s) refl) (ran_fits_any d)
        (λ m fit. ends_at_once did_with (λ marks. do_call user c (with_marks (m ∷ marks) s)) (marked s d m) (call_marked user c s d is m fit))

-- ---- a recovery

-- what is left of a recovery that failed or not, and was not stopped
abbrev passed_by : Call → Course → Option Failure → Course
passed_by c t None = t
passed_by c t (Some f) = pass_over c f t

passed_with : (c : Call) (t : Course) (o : Option Failure) (later : List Mark) → passed_by c (with_marks later t) o ≡ with_marks later (passed_by c t o)
passed_with c t None later = refl
passed_with c t (Some f) later = refl

not_again : (c : Call) (again : Course → Meaning Course) (t : Course) (o : Option Failure) → was_stopped o ≡ false
    → after_undoing c again t o ≡ gives (passed_by c t o)
not_again c again t None on = refl
not_again c again t (Some (Refused r)) on = refl
not_again c again t (Some (Code z)) on = refl
not_again c again t (Some NoRule) on = refl
not_again c again t (Some Depth) on = refl
not_again c again t (Some Spent) on = refl
not_again c again t (Some LongText) on = refl
not_again c again t (Some Stopped) on = absurd cc

module _ (user : Text) (c : Call) where
  -- once its call was done, and not stopped
  done_once : (did : Did) → was_stopped did.failure ≡ false → (n : ℕ) (later : List Mark) (m : Meaning Did) → m ≡ gives (did_with later did)
      → goes_on n user c m ≡ gives (with_marks later (passed_by c did.state did.failure))
  done_once did on n later m e =
      ap (goes_on n user c) e
      ∙ not_again c (undo_within n user c) (with_marks later did.state) did.failure on
      ∙ ap gives (passed_with c did.state did.failure later)

  module _ (s : Course) (d : Deed) (is : (t : Course) → t.grid ≡ s.grid → do_call user c t ≡ take_mark c t d t.marks) where
    -- behind the mark of a deed that was not stopped
    ends_unstopped : (m : Mark) → fits d m ≡ true → was_stopped (marked s d m).failure ≡ false
        → Ends with_marks (λ marks. undo user c (with_marks (m ∷ marks) s))
    ends_unstopped m fit on =
        ends_at_once with_marks (λ marks. undo user c (with_marks (m ∷ marks) s)) (passed_by c (marked s d m).state (marked s d m).failure)
        (λ later. done_once (marked s d m) on (suc (length later)) later (do_call user c (with_marks (m ∷ later) s)) (call_marked user c s d is m fit later))

  undo_ends : (s : Course) → Ends with_marks (λ marks. undo user c (with_marks marks s))
  undo_ends s = by_call (call_begins user c s)
    where
      by_ran : Ends with_marks (λ marks. undo user c (with_marks (Ran 0 0 [] ∷ marks) s)) → Ends with_marks (λ marks. undo user c (with_marks marks s))
      by_ran h = record { marks = Ran 0 0 [] ∷ h.marks; ran = (refl, h.ran); to = h.to; ends = h.ends }

      by_call : CallBegins user c s → Ends with_marks (λ marks. undo user c (with_marks marks s))
      by_call (takes_none did on e) =
          ends_at_once with_marks (λ marks. undo user c (with_marks marks s)) (passed_by c did.state did.failure)
          (λ later. done_once did on (length later) later (do_call user c (with_marks later s)) (e later))
      by_call (takes_one d is) = by_ran (ends_unstopped s d is (Ran 0 0 []) (ran_fits_any d) refl)

  module _ (s : Course) (d : Deed) (is : (t : Course) → t.grid ≡ s.grid → do_call user c t ≡ take_mark c t d t.marks) where
    -- behind a mark that fits; one that was stopped is done again
    ends_marked : (m : Mark) → fits d m ≡ true → Ends with_marks (λ marks. undo user c (with_marks (m ∷ marks) s))
    ends_marked (Ran word now bad) fit = ends_unstopped s d is (Ran word now bad) fit refl
    ends_marked (Fault slot sent) fit = ends_unstopped s d is (Fault slot sent) fit refl
    ends_marked (Bad slot len found sent) fit = ends_unstopped s d is (Bad slot len found sent) fit refl
    ends_marked Stop fit =
        ends_as with_marks (λ marks. undo user c (with_marks marks (taking s Stop []))) (λ marks. undo user c (with_marks (Stop ∷ marks) s))
        (λ marks. sym (ap (goes_on (suc (length marks)) user c) (call_marked user c s d is Stop fit marks))) (undo_ends (taking s Stop []))

  pub begins_undo : (s : Course) → Begins with_marks user (λ marks. undo user c (with_marks marks s))
  begins_undo s = by_call (call_begins user c s)
    where
      by_call : CallBegins user c s → Begins with_marks user (λ marks. undo user c (with_marks marks s))
      by_call (takes_none did on e) =
          at_once (passed_by c did.state did.failure) (λ later. done_once did on (length later) later (do_call user c (with_marks later s)) (e later))
      by_call (takes_one d is) =
          in_deed (record { call = c; grid = s.grid; taken = s.taken; passed = s.passed; undo = c ∷ [] }) d is
          (ap (goes_on 0 user c) (is (with_marks [] s) refl)) (ran_fits_any d) (ends_marked s d is)

-- ---- a list of recoveries

pub begins_back : (user : Text) (cs : List Call) (s : Course) → Begins with_marks user (λ marks. back user cs (with_marks marks s))
begins_back user [] s = at_once s (λ later. refl)
begins_back user (c ∷ cs) s =
    begins_then with_marks with_marks user (λ marks. behind (c ∷ []) (back user cs (with_marks marks s))) (λ later. undo user c later)
    (begins_behind with_marks user (c ∷ []) (λ marks. back user cs (with_marks marks s)) (begins_back user cs s)) (λ t. begins_undo user c t)
