-- Lists of recoveries: what one of them leaves of the list, where it waits, and with which marks all of them end.
use Rattle.std.proofs.Common.{◌≡◌, ◌≢◌, ℕ, Bool, true, false, true≢false, List, [], ◌∷◌, ◌++◌, Option, Some, None, refl, sym, ◌∙◌, ap, subst}
use Rattle.std.specs.Prelude.{Result, Ok, Err}
use Rattle.std.specs.List.{AllByRecursion}
use Rattle.std.proofs.lemmas.List.{append_cancel_left, append_cancel_right}
use Rattle.grid_model.specs.Names.{Text}
use Rattle.grid_model.specs.Grid.{Replica}
use Rattle.grid_model.specs.Refusing.{Or}
use Rattle.grid_model.specs.Printing.{print_failure}
use Rattle.grid_model.specs.Meanings.{Meaning, Waiting, gives, waits, ◌>>=◌, behind, mapped}
use Rattle.grid_model.specs.Deeds.{Act, Deed, Touch, changes, deed, writing, sending, copying, reading, by_mark, is_stop, fits, are_bad, ran_fits}
use Rattle.grid_model.specs.Operations.Table.{row}
use Rattle.grid_model.specs.Services.{Service, nothing, operation, no_path, service}
use Rattle.grid_model.specs.Doing.{Course, Did, did_well, did_fail, with_result, where_mark_fits, taking, take_mark, do_act}
use Rattle.grid_model.specs.Doing.{do_service, do_call, undo, back, pass_over}
use Rattle.grid_model.specs.Reopening.{Unwound, of_state, stopped_at, unwind}
use Rattle.grid_model.specs.declared.calls.Call.{Call}
use Rattle.grid_model.specs.declared.marks.Mark.{Mark}
use Rattle.grid_model.specs.declared.marks.Mark.TheVariants.{Ran, Fault, Bad, Stop}
use Rattle.grid_model.specs.declared.refusal.Refusal.TheVariants.{BadPath}
use Rattle.grid_model.specs.declared.refusal.Failure.{Failure}
use Rattle.grid_model.specs.declared.refusal.Failure.TheVariants.{Refused, Code, NoRule, Depth, Spent, LongText, Stopped}
use Rattle.grid_model.proofs.MeaningLemmas.{gives_is, waits_not_gives, unfit_not_gives}
use Rattle.grid_model.proofs.RecoveryLemmas.{back_after, back-append}
use Rattle.grid_model.proofs.StoppingCalls.{after_stop, goes_on}
use Rattle.grid_model.proofs.StoppingRecoveries.{back_more, back_stop}
use Rattle.chain_core.specs.Answers.{failure_in, noted}
use Rattle.chain_core.specs.Moves.{was_stopped}
use Rattle.chain_core.proofs.Undoing.{left_over, undone_one}
use Rattle.chain_run.specs.Places.{Place, course_at, Performs, RunsCall}
use Rattle.call_laws.specs.Amid.{AreRan}
use Rattle.undo_run.proofs.Flags.{same_flags, same_place}

-- ---- one recovery less

-- what the last recovery leaves that was run, or failed so
abbrev pub undone : Call → Course → Option Failure → Course
undone c t None = t
undone c t (Some f) = pass_over c f t

-- the place to which it leads, from where its call came to
abbrev pub place_after : Call → Place → Option Failure → Place
place_after c q None = q
place_after c q (Some f) = record q { passed = q.passed ++ record { call = c; failure = print_failure f } ∷ [] }

pub undone_place : (c : Call) (q : Place) (later : List Mark) (b : ℕ) (f : Bool) (o : Option Failure)
    → undone c (course_at q later b f) o ≡ course_at (place_after c q o) later b f
undone_place c q later b f None = refl
undone_place c q later b f (Some x) = refl

-- what is noted of a recovery that was not stopped
pub noted_undone : (c : Call) (t : Course) (o : Option Failure) → was_stopped o ≡ false → noted c o t ≡ undone c t o
noted_undone c t None on = refl
noted_undone c t (Some (Refused r)) on = refl
noted_undone c t (Some (Code z)) on = refl
noted_undone c t (Some NoRule) on = refl
noted_undone c t (Some Depth) on = refl
noted_undone c t (Some Spent) on = refl
noted_undone c t (Some LongText) on = refl
noted_undone c t (Some Stopped) on = absurd (true≢false on)

-- a recovery that was not stopped leaves those before it
pub one_less : (user : Text) (cs : List Call) (c : Call) (s t : Course) (o : Option Failure) → do_call user c s ≡ gives (record { state = t; failure = o })
    → was_stopped o ≡ false
    → back user (cs ++ c ∷ []) s ≡ back user cs (undone c t o)
one_less user cs c s t o e on =
    undone_one user cs c o s t e
    ∙ ap (λ b. back user (left_over b cs c) (noted c o t)) on
    ∙ ap (back user cs) (noted_undone c t o on)

-- ---- where the last recovery waits

-- where the call waits at a place, with these recoveries that a stop has done
abbrev pub waiting_with : Place → Call → List Call → Waiting
waiting_with p c undo = record { call = c; grid = p.grid; taken = p.taken; passed = p.passed; undo = undo }

-- all of them wait there, with the whole list
pub waits_last : (user : Text) (cs : List Call) (c : Call) (p : Place) (b : ℕ) (f : Bool) → do_call user c (course_at p [] b f) ≡ waits (waiting_with p c [])
    → back user (cs ++ c ∷ []) (course_at p [] b f) ≡ waits (waiting_with p c (cs ++ c ∷ []))
waits_last user cs c p b f e = back-append user cs (c ∷ []) (course_at p [] b f) ∙ ap (λ m. back_after user cs (goes_on 0 user c m)) e

-- a stop there has all of them done again, behind its mark
pub stopped_again : (user : Text) (cs : List Call) (c : Call) (p : Place) (b : ℕ) (f : Bool)
    → do_call user c (course_at p [] b f) ≡ waits (waiting_with p c [])
    → (w : List Mark) (b2 : ℕ) (f2 : Bool) → mapped of_state (back user (cs ++ c ∷ []) (course_at p (Stop ∷ w) b2 f2))
    ≡ unwind p.grid user (cs ++ c ∷ []) p.taken p.passed w
stopped_again user cs c p b f e w b2 f2 =
    same_place user (cs ++ c ∷ []) p (Stop ∷ w) b2 b f2 f
    ∙ ap (mapped of_state) (back_stop user w (cs ++ c ∷ []) (course_at p [] b f) (waiting_with p c (cs ++ c ∷ [])) (waits_last user cs c p b f e))
    ∙ same_flags user (cs ++ c ∷ []) (after_stop (waiting_with p c (cs ++ c ∷ [])) b w) (stopped_at p.grid p.taken p.passed w) refl refl refl refl

-- ---- a call is stopped by a `Stop` alone

-- it took no mark, and is not stopped, or took the next one, and is stopped if this is a `Stop`
data Takes (s : Course) (did : Did) : Type 0 where
  takes_none : did.state.marks ≡ s.marks → was_stopped did.failure ≡ false → Takes s did
  takes_one : (m : Mark) → s.marks ≡ m ∷ did.state.marks → was_stopped did.failure ≡ is_stop m → Takes s did

mark_takes : (s : Course) (d : Deed) (m : Mark) (rest : List Mark) → s.marks ≡ m ∷ rest → Takes s (with_result (taking s m rest) (by_mark d m))
mark_takes s d (Ran word now bad) rest is = takes_one (Ran word now bad) is refl
mark_takes s d (Fault slot sent) rest is = takes_one (Fault slot sent) is refl
mark_takes s d (Bad slot len found sent) rest is = takes_one (Bad slot len found sent) is refl
mark_takes s d Stop rest is = takes_one Stop is refl

fitted : (b : Bool) (x did : Did) → where_mark_fits b x ≡ gives did → x ≡ did
fitted true x did e = gives_is e
fitted false x did e = absurd (unfit_not_gives e)

take_takes : (c : Call) (s : Course) (d : Deed) (ms : List Mark) (did : Did) → s.marks ≡ ms → take_mark c s d ms ≡ gives did → Takes s did
take_takes c s d [] did is e = absurd (waits_not_gives e)
take_takes c s d (m ∷ rest) did is e = subst (Takes s) (fitted (fits d m) (with_result (taking s m rest) (by_mark d m)) did e) (mark_takes s d m rest is)

act_takes : (c : Call) (s : Course) (a : Or Act) (did : Did) → do_act c s a ≡ gives did → Takes s did
act_takes c s (Err r) did e = subst (Takes s) (gives_is e) (takes_none refl refl)
act_takes c s (Ok (changes g)) did e = subst (Takes s) (gives_is e) (takes_none refl refl)
act_takes c s (Ok (deed d)) did e = take_takes c s d s.marks did refl e

service_takes : (c : Call) (user : Text) (x : Option Service) (s : Course) (did : Did) → do_service c user x s ≡ gives did → Takes s did
service_takes c user None s did e = subst (Takes s) (gives_is e) (takes_none refl refl)
service_takes c user (Some nothing) s did e = subst (Takes s) (gives_is e) (takes_none refl refl)
service_takes c user (Some (operation op)) s did e = act_takes c s (row s.grid user op) did e
service_takes c user (Some (no_path place)) s did e = subst (Takes s) (gives_is e) (takes_none refl refl)

no_stop : (m : Mark) → m ≢ Stop → is_stop m ≡ false
no_stop (Ran word now bad) h = refl
no_stop (Fault slot sent) h = refl
no_stop (Bad slot len found sent) h = refl
no_stop Stop h = absurd (h refl)

-- a call that took no `Stop` was not stopped
pub unstopped : (user : Text) (c : Call) (s t : Course) (o : Option Failure) → do_call user c s ≡ gives (record { state = t; failure = o })
    → (ms : List Mark) → s.marks ≡ ms ++ t.marks → AllByRecursion (λ m. m ≢ Stop) ms → was_stopped o ≡ false
unstopped user c s t o e ms is none = by_taken (service_takes c user (service c) s (record { state = t; failure = o }) e)
  where
    by_taken : Takes s (record { state = t; failure = o }) → was_stopped o ≡ false
    by_taken (takes_none same on) = on
    by_taken (takes_one m first on) =
        on ∙ no_stop m (subst (AllByRecursion (λ (m : Mark). m ≢ Stop)) (append_cancel_right ms (m ∷ []) t.marks (sym is ∙ first)) none).0

-- ---- one call of a list

-- A recovery that ran as a call, with these marks and no `Stop` among them, leaves those before it, from where the call came to.
pub performed : (cs : List Call) (c : Call) (r : Result Unit Failure) (p q : Place) → Performs c r p q → (ms : List Mark) → q.taken ≡ p.taken ++ ms
    → AllByRecursion (λ m. m ≢ Stop) ms
    → (later : List Mark) (b : ℕ) (f : Bool)
    → mapped of_state (back p.user (cs ++ c ∷ []) (course_at p (ms ++ later) b f))
    ≡ mapped of_state (back p.user cs (course_at (place_after c q (failure_in r)) later b f))
performed cs c r p q run ms taken none later b f =
    ap (mapped of_state) (one_less p.user cs c (course_at p (ms ++ later) b f) (course_at q later b did.0) (failure_in r) did.1 on)
    ∙ ap (λ s. mapped of_state (back p.user cs s)) (undone_place c q later b did.0 (failure_in r))
    ∙ same_place p.user cs (place_after c q (failure_in r)) later b b did.0 f
  where
    Did_with : List Mark → Type 0
    Did_with ws = (left : Bool) × RunsCall p.user c r (course_at p (ws ++ later) b f) (course_at q later b left)

    did : Did_with ms
    did = subst Did_with (append_cancel_left p.taken run.marks ms (sym run.taken ∙ taken)) (run.did later b f)

    on : was_stopped (failure_in r) ≡ false
    on = unstopped p.user c (course_at p (ms ++ later) b f) (course_at q later b did.0) (failure_in r) did.1 ms refl none

-- ---- marks with which all end

append_ran : (xs ys : List Mark) → AreRan xs → AreRan ys → AreRan (xs ++ ys)
append_ran [] ys h k = k
append_ran (x ∷ xs) ys h k = (h.0, append_ran xs ys h.1 k)

none_bad : (read : List (ℕ × Replica)) → are_bad read [] ≡ true
none_bad [] = refl
none_bad (e ∷ es) = refl

ran_fits_each : (t : Touch) → ran_fits t [] ≡ true
ran_fits_each (writing slots) = refl
ran_fits_each (sending from) = refl
ran_fits_each (copying from slots) = refl
ran_fits_each (reading read slots) = none_bad read

-- with some of these marks, and no others, it ends and is not stopped, and leaves none
record EndsCall (does : List Mark → Meaning Did) : Type 0 where
  marks : List Mark
  ran : AreRan marks
  did : Did
  ends : does marks ≡ gives did
  left : did.state.marks ≡ []
  on : was_stopped did.failure ≡ false

-- the same with other marks
abbrev with_marks : Course → List Mark → Course
with_marks s ms = record s { marks = ms }

deed_ends : (c : Call) (s : Course) (d : Deed) → EndsCall (λ ms. take_mark c (with_marks s ms) d ms)
deed_ends c s d = record {
  marks = Ran 0 0 [] ∷ [];
  ran = (refl, tt);
  did = did;
  ends = ap (λ b. where_mark_fits b did) (ran_fits_each d.touch);
  left = refl;
  on = refl;
}
  where
    did : Did
    did = with_result (taking (with_marks s (Ran 0 0 [] ∷ [])) (Ran 0 0 []) []) (by_mark d (Ran 0 0 []))

act_ends : (c : Call) (s : Course) (a : Or Act) → EndsCall (λ ms. do_act c (with_marks s ms) a)
act_ends c s (Err r) = record { marks = []; ran = tt; did = did_fail (with_marks s []) (Refused r); ends = refl; left = refl; on = refl }
act_ends c s (Ok (changes g)) = record { marks = []; ran = tt; did = did_well (record s { grid = g; marks = [] }); ends = refl; left = refl; on = refl }
act_ends c s (Ok (deed d)) = deed_ends c s d

service_ends : (c : Call) (user : Text) (x : Option Service) (s : Course) → EndsCall (λ ms. do_service c user x (with_marks s ms))
service_ends c user None s = record { marks = []; ran = tt; did = did_fail (with_marks s []) NoRule; ends = refl; left = refl; on = refl }
service_ends c user (Some nothing) s = record { marks = []; ran = tt; did = did_well (with_marks s []); ends = refl; left = refl; on = refl }
service_ends c user (Some (operation op)) s = act_ends c s (row s.grid user op)
service_ends c user (Some (no_path place)) s =
    record { marks = []; ran = tt; did = did_fail (with_marks s []) (Refused (BadPath place)); ends = refl; left = refl; on = refl }

undone_marks : (c : Call) (t : Course) (o : Option Failure) → (undone c t o).marks ≡ t.marks
undone_marks c t None = refl
undone_marks c t (Some f) = refl

-- the same of the recoveries of a list
record EndsBack (user : Text) (cs : List Call) (s : Course) : Type 0 where
  marks : List Mark
  ran : AreRan marks
  to : Course
  ends : back user cs (with_marks s marks) ≡ gives to
  left : to.marks ≡ []

ends_back : (user : Text) (cs : List Call) (s : Course) → EndsBack user cs s
ends_back user [] s = record { marks = []; ran = tt; to = with_marks s []; ends = refl; left = refl }
ends_back user (c ∷ cs) s = by_rest (ends_back user cs s)
  where
    then_call : (h : EndsBack user cs s) → EndsCall (λ ms. do_service c user (service c) (with_marks h.to ms)) → EndsBack user (c ∷ cs) s
    then_call h e = record {
      marks = h.marks ++ e.marks;
      ran = append_ran h.marks e.marks h.ran e.ran;
      to = undone c e.did.state e.did.failure;
      ends = ap (λ m. behind (c ∷ []) m >>= λ later. undo user c later) (back_more user e.marks cs (with_marks s h.marks) h.to h.ends)
          ∙ ap (λ ms. undo user c (with_marks h.to (ms ++ e.marks))) h.left
          ∙ one_less user [] c (with_marks h.to e.marks) e.did.state e.did.failure e.ends e.on;
      left = undone_marks c e.did.state e.did.failure ∙ e.left;
    }

    by_rest : EndsBack user cs s → EndsBack user (c ∷ cs) s
    by_rest h = then_call h (service_ends c user (service c) h.to)

-- with some marks of deeds that ran, and no others, the recoveries of the list end, and leave none
pub record Completes (user : Text) (cs : List Call) (p : Place) : Type 0 where
  pub marks : List Mark
  pub clean : AreRan marks
  pub opened : Unwound
  pub opened_is : mapped of_state (back user cs (course_at p marks 0 true)) ≡ gives opened
  pub opened_all : opened.left ≡ []

-- such marks there are
pub completes : (user : Text) (cs : List Call) (p : Place) → Completes user cs p
completes user cs p = by_ends (ends_back user cs (course_at p [] 0 true))
  where
    by_ends : EndsBack user cs (course_at p [] 0 true) → Completes user cs p
    by_ends h = record { marks = h.marks; clean = h.ran; opened = of_state h.to; opened_is = ap (mapped of_state) h.ends; opened_all = h.left }
