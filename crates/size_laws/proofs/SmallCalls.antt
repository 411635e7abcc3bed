-- Calls and recoveries leave the grid within the limits.
use Rattle.std.proofs.Common.{◌≡◌, ℕ, zero, suc, Bool, true, false, List, [], ◌∷◌, length, Option, Some, None, Ok, Err, refl, subst}
use Rattle.grid_model.specs.Names.{Text}
use Rattle.grid_model.specs.Grid.{Grid}
use Rattle.grid_model.specs.Refusing.{Or}
use Rattle.grid_model.specs.Meanings.{Meaning, waits, behind}
use Rattle.grid_model.specs.Deeds.{Act, Deed, changes, deed, by_mark, fits}
use Rattle.grid_model.specs.Operations.Table.{Operation, row}
use Rattle.grid_model.specs.Services.{Service, nothing, operation, no_path, service}
use Rattle.grid_model.specs.Doing.{Course, Did, with_result, where_mark_fits, taking, take_mark, do_act, do_operation, do_service, do_call}
use Rattle.grid_model.specs.Doing.{after_undoing, undo_within, undo, back}
use Rattle.grid_model.specs.declared.calls.Call.{Call}
use Rattle.grid_model.specs.declared.marks.Mark.{Mark}
use Rattle.grid_model.specs.declared.marks.Mark.TheVariants.{Ran, Fault, Bad, Stop}
use Rattle.grid_model.specs.declared.marks.BadReplica.{BadReplica}
use Rattle.grid_model.specs.declared.refusal.Failure.{Failure}
use Rattle.grid_model.specs.declared.refusal.Failure.TheVariants.{Stopped}
use Rattle.size_laws.specs.Laws.{grid_left, grid_here, CallsKeepWithin, WorkKeepsWithin, CallsWaitAtOnce, RecoveryKeepsWithin, RecoveriesKeepWithin}
use Rattle.size_laws.specs.Within.{IsWithin}
use Rattle.size_laws.proofs.Ending.{Ends, ends_next, ends_behind, ends_within}
use Rattle.size_laws.proofs.SmallRows.{IsSmallAct, row_small}

-- ---- one call

-- a deed leaves the grid as it was, unless it ran
mark_ends : (d : Deed) (s : Course) (m : Mark) → IsWithin s.grid → ((word now : ℕ) (bad : List BadReplica) → IsWithin (d.ran word now bad))
    → IsWithin (with_result s (by_mark d m)).state.grid
mark_ends d s (Ran word now bad) w ran = ran word now bad
mark_ends d s (Fault slot sent) w ran = w
mark_ends d s (Bad slot len found sent) w ran = w
mark_ends d s Stop w ran = w

fit_ends : (b : Bool) (did : Did) → IsWithin did.state.grid → Ends grid_left (where_mark_fits b did)
fit_ends true did w = w
fit_ends false did w = tt

deed_ends : (c : Call) (s : Course) (d : Deed) (marks : List Mark) → IsWithin s.grid → ((word now : ℕ) (bad : List BadReplica) → IsWithin (d.ran word now bad))
    → Ends grid_left (take_mark c s d marks)
deed_ends c s d [] w ran = w
deed_ends c s d (m ∷ rest) w ran = fit_ends (fits d m) (with_result (taking s m rest) (by_mark d m)) (mark_ends d (taking s m rest) m w ran)

act_ends : (c : Call) (s : Course) (x : Or Act) → IsWithin s.grid → ((a : Act) → x ≡ Ok a → IsSmallAct a) → Ends grid_left (do_act c s x)
act_ends c s (Err r) w small = w
act_ends c s (Ok (changes g)) w small = small (changes g) refl
act_ends c s (Ok (deed d)) w small = deed_ends c s d s.marks w (small (deed d) refl).0

pub operation_ends : (c : Call) (user : Text) (op : Operation) (s : Course) → IsWithin s.grid → Ends grid_left (do_operation c user op s)
operation_ends c user op s w = act_ends c s (row s.grid user op) w (row_small s.grid w user op)

pub service_ends : (c : Call) (user : Text) (x : Option Service) (s : Course) → IsWithin s.grid → Ends grid_left (do_service c user x s)
service_ends c user None s w = w
service_ends c user (Some nothing) s w = w
service_ends c user (Some (operation op)) s w = operation_ends c user op s w
service_ends c user (Some (no_path place)) s w = w

pub call_ends : (user : Text) (c : Call) (s : Course) → IsWithin s.grid → Ends grid_left (do_call user c s)
call_ends user c s w = service_ends c user (service c) s w

-- ---- where it waits

-- it waits at this grid, where it waits
abbrev WaitsAt : {A : Type 0} → Grid → Meaning A → Type 0
WaitsAt g (waits w) = w.grid ≡ g
WaitsAt g other = Unit {0}

fit_at : (g : Grid) (b : Bool) (did : Did) → WaitsAt g (where_mark_fits b did)
fit_at g true did = tt
fit_at g false did = tt

deed_at : (c : Call) (s : Course) (d : Deed) (marks : List Mark) → WaitsAt s.grid (take_mark c s d marks)
deed_at c s d [] = refl
deed_at c s d (m ∷ rest) = fit_at s.grid (fits d m) (with_result (taking s m rest) (by_mark d m))

act_at : (c : Call) (s : Course) (x : Or Act) → WaitsAt s.grid (do_act c s x)
act_at c s (Err r) = tt
act_at c s (Ok (changes g)) = tt
act_at c s (Ok (deed d)) = deed_at c s d s.marks

service_at : (c : Call) (user : Text) (x : Option Service) (s : Course) → WaitsAt s.grid (do_service c user x s)
service_at c user None s = tt
service_at c user (Some nothing) s = tt
service_at c user (Some (operation op)) s = act_at c s (row s.grid user op)
service_at c user (Some (no_path place)) s = tt

-- ---- recoveries

undone_ends : (c : Call) (again : Course → Meaning Course) (s : Course) (f : Option Failure) → IsWithin s.grid → Ends grid_here (again s)
    → Ends grid_here (after_undoing c again s f)
undone_ends c again s None w once = w
undone_ends c again s (Some Stopped) w once = once
undone_ends c again s (Some f) w once = w

within_ends : (n : ℕ) (user : Text) (c : Call) (s : Course) → IsWithin s.grid → Ends grid_here (undo_within n user c s)
within_ends zero user c s w = tt
within_ends (suc n) user c s w =
    ends_next grid_left grid_here (behind (c ∷ []) (do_call user c s)) (λ did. after_undoing c (undo_within n user c) did.state did.failure)
    (ends_behind grid_left (c ∷ []) (do_call user c s) (call_ends user c s w))
    (λ did its. undone_ends c (undo_within n user c) did.state did.failure its (within_ends n user c did.state its))

pub undo_ends : (user : Text) (c : Call) (s : Course) → IsWithin s.grid → Ends grid_here (undo user c s)
undo_ends user c s w = within_ends (suc (length s.marks)) user c s w

pub back_ends : (user : Text) (cs : List Call) (s : Course) → IsWithin s.grid → Ends grid_here (back user cs s)
back_ends user [] s w = w
back_ends user (c ∷ cs) s w =
    ends_next grid_here grid_here (behind (c ∷ []) (back user cs s)) (λ later. undo user c later)
    (ends_behind grid_here (c ∷ []) (back user cs s) (back_ends user cs s w)) (λ later its. undo_ends user c later its)

-- ---- the laws

pub calls_keep_within : CallsKeepWithin
calls_keep_within user c s w = ends_within grid_left (do_call user c s) (call_ends user c s w)

pub work_keeps_within : WorkKeepsWithin
work_keeps_within c user op s w = ends_within grid_left (do_operation c user op s) (operation_ends c user op s w)

pub calls_wait_at_once : CallsWaitAtOnce
calls_wait_at_once user c s w e = subst (WaitsAt s.grid) e (service_at c user (service c) s)

pub recovery_keeps_within : RecoveryKeepsWithin
recovery_keeps_within user c s w = ends_within grid_here (undo user c s) (undo_ends user c s w)

pub recoveries_keep_within : RecoveriesKeepWithin
recoveries_keep_within user cs s w = ends_within grid_here (back user cs s) (back_ends user cs s w)
