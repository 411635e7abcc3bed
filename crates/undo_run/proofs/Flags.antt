-- Recoveries leave the same however many steps were begun, and whether a stop was taken before them or not.
use Rattle.std.proofs.Common.{◌≡◌, ℕ, zero, suc, Bool, true, false, List, [], ◌∷◌, length, Option, Some, None, refl, sym, ◌∙◌, ap}
use Rattle.std.specs.Prelude.{Result, Ok, Err, ◌||◌}
use Rattle.grid_model.specs.Names.{Text}
use Rattle.grid_model.specs.Grid.{Grid}
use Rattle.grid_model.specs.Refusing.{Or}
use Rattle.grid_model.specs.Meanings.{Meaning, gives, waits, unfit, ◌>>=◌, behind, mapped}
use Rattle.grid_model.specs.Deeds.{Act, Deed, changes, deed, by_mark, is_stop, fits}
use Rattle.grid_model.specs.Operations.Table.{row}
use Rattle.grid_model.specs.Services.{Service, nothing, operation, no_path, service}
use Rattle.grid_model.specs.Doing.{Course, Did, with_result, where_mark_fits, taking, take_mark, do_act, do_service}
use Rattle.grid_model.specs.Doing.{do_call, undo_within, undo, back, after_undoing}
use Rattle.grid_model.specs.Reopening.{of_state}
use Rattle.grid_model.specs.declared.calls.Call.{Call}
use Rattle.grid_model.specs.declared.marks.Mark.{Mark}
use Rattle.grid_model.specs.declared.refusal.Failure.{Failure}
use Rattle.grid_model.specs.declared.refusal.Failure.TheVariants.{Refused, Code, NoRule, Depth, Spent, LongText, Stopped}
use Rattle.grid_model.proofs.MeaningLemmas.{mapped_twice}
use Rattle.grid_model.proofs.StoppingCalls.{goes_on}
use Rattle.chain_run.specs.Places.{Place, course_at}

-- the same, as if no step was begun and no stop was taken
abbrev unmarked : Course → Course
unmarked s = record s { begun = 0; stopped = false }

abbrev did_unmarked : Did → Did
did_unmarked d = record d { state = unmarked d.state }

fits_unmarked : (b on : Bool) (s : Course) (r : Result Grid Failure)
    → mapped did_unmarked (where_mark_fits b (with_result (record s { begun = 0; stopped = on }) r)) ≡ mapped did_unmarked
    (where_mark_fits b (with_result s r))
fits_unmarked true on s (Ok g) = refl
fits_unmarked true on s (Err f) = refl
fits_unmarked false on s r = refl

take_unmarked : (c : Call) (s : Course) (d : Deed) (ms : List Mark)
    → mapped did_unmarked (take_mark c (unmarked s) d ms) ≡ mapped did_unmarked (take_mark c s d ms)
take_unmarked c s d [] = refl
take_unmarked c s d (m ∷ rest) = fits_unmarked (fits d m) (is_stop m || false) (taking s m rest) (by_mark d m)

act_unmarked : (c : Call) (s : Course) (a : Or Act) → mapped did_unmarked (do_act c (unmarked s) a) ≡ mapped did_unmarked (do_act c s a)
act_unmarked c s (Err r) = refl
act_unmarked c s (Ok (changes g)) = refl
act_unmarked c s (Ok (deed d)) = take_unmarked c s d s.marks

service_unmarked : (c : Call) (user : Text) (x : Option Service) (s : Course)
    → mapped did_unmarked (do_service c user x (unmarked s)) ≡ mapped did_unmarked (do_service c user x s)
service_unmarked c user None s = refl
service_unmarked c user (Some nothing) s = refl
service_unmarked c user (Some (operation op)) s = act_unmarked c s (row s.grid user op)
service_unmarked c user (Some (no_path place)) s = refl

undo_unmarked : (user : Text) (c : Call) (n : ℕ) (s : Course) → mapped unmarked (undo_within n user c (unmarked s)) ≡ mapped unmarked (undo_within n user c s)
undo_unmarked user c zero s = refl
undo_unmarked user c (suc n) s =
    sym (by_call (undo_unmarked user c n) (do_call user c (unmarked s)))
    ∙ ap (λ m. mapped unmarked (goes_on n user c m)) (service_unmarked c user (service c) s)
    ∙ by_call (undo_unmarked user c n) (do_call user c s)
  where
    Again : Type 0
    Again = (t : Course) → mapped unmarked (undo_within n user c (unmarked t)) ≡ mapped unmarked (undo_within n user c t)

    by_failure : Again → (t : Course) (f : Option Failure)
        → mapped unmarked (after_undoing c (undo_within n user c) (unmarked t) f) ≡ mapped unmarked (after_undoing c (undo_within n user c) t f)
    by_failure again t None = refl
    by_failure again t (Some Stopped) = again t
    by_failure again t (Some (Refused r)) = refl
    by_failure again t (Some (Code z)) = refl
    by_failure again t (Some NoRule) = refl
    by_failure again t (Some Depth) = refl
    by_failure again t (Some Spent) = refl
    by_failure again t (Some LongText) = refl

    by_call : Again → (m : Meaning Did) → mapped unmarked (goes_on n user c (mapped did_unmarked m)) ≡ mapped unmarked (goes_on n user c m)
    by_call again (gives did) = by_failure again did.state did.failure
    by_call again (waits w) = refl
    by_call again unfit = refl

abbrev undo_next : Text → Call → Meaning Course → Meaning Course
undo_next user c m = behind (c ∷ []) m >>= λ later. undo user c later

next_unmarked : (user : Text) (c : Call) (m : Meaning Course) → mapped unmarked (undo_next user c (mapped unmarked m)) ≡ mapped unmarked (undo_next user c m)
next_unmarked user c (gives t) = undo_unmarked user c (suc (length t.marks)) t
next_unmarked user c (waits w) = refl
next_unmarked user c unfit = refl

back_unmarked : (user : Text) (cs : List Call) (s : Course) → mapped unmarked (back user cs (unmarked s)) ≡ mapped unmarked (back user cs s)
back_unmarked user [] s = refl
back_unmarked user (c ∷ cs) s =
    sym (next_unmarked user c (back user cs (unmarked s)))
    ∙ ap (λ m. mapped unmarked (undo_next user c m)) (back_unmarked user cs s)
    ∙ next_unmarked user c (back user cs s)

left_unmarked : (user : Text) (cs : List Call) (s : Course) → mapped of_state (back user cs (unmarked s)) ≡ mapped of_state (back user cs s)
left_unmarked user cs s =
    sym (mapped_twice of_state unmarked (back user cs (unmarked s)))
    ∙ ap (mapped of_state) (back_unmarked user cs s)
    ∙ mapped_twice of_state unmarked (back user cs s)

-- what recoveries leave comes from the grid, the marks and what was passed over alone
pub same_flags : (user : Text) (cs : List Call) (s t : Course) → s.grid ≡ t.grid → s.marks ≡ t.marks → s.taken ≡ t.taken → s.passed ≡ t.passed
    → mapped of_state (back user cs s) ≡ mapped of_state (back user cs t)
same_flags user cs s t grid marks taken passed = sym (left_unmarked user cs s) ∙ ap (λ x. mapped of_state (back user cs x)) same ∙ left_unmarked user cs t
  where
    same : unmarked s ≡ unmarked t
    same = λ i. record { grid = grid i; marks = marks i; taken = taken i; begun = 0; passed = passed i; stopped = false }

-- the same from one place
pub same_place : (user : Text) (cs : List Call) (p : Place) (marks : List Mark) (b b2 : ℕ) (f f2 : Bool)
    → mapped of_state (back user cs (course_at p marks b f)) ≡ mapped of_state (back user cs (course_at p marks b2 f2))
same_place user cs p marks b b2 f f2 = same_flags user cs (course_at p marks b f) (course_at p marks b2 f2) refl refl refl refl
