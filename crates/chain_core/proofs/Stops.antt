-- What a call leaves of the counts that the machine keeps.
use Rattle.std.proofs.Common.{◌≡◌, Bool, true, false, List, [], ◌∷◌, Option, Some, None, refl, subst}
use Rattle.std.specs.Prelude.{◌||◌, Ok, Err}
use Rattle.grid_model.specs.Names.{Text}
use Rattle.grid_model.specs.Refusing.{Or}
use Rattle.grid_model.specs.Meanings.{gives}
use Rattle.grid_model.specs.Deeds.{Act, Deed, changes, deed, by_mark, fits}
use Rattle.grid_model.specs.Operations.Table.{row}
use Rattle.grid_model.specs.Services.{Service, nothing, operation, no_path, service}
use Rattle.grid_model.specs.Doing.{Course, Did, with_result, where_mark_fits, taking, take_mark, do_act, do_service, do_call}
use Rattle.grid_model.specs.declared.calls.Call.{Call}
use Rattle.grid_model.specs.declared.marks.Mark.{Mark}
use Rattle.grid_model.specs.declared.marks.Mark.TheVariants.{Ran, Fault, Bad, Stop}
use Rattle.grid_model.proofs.MeaningLemmas.{gives_is, waits_not_gives, unfit_not_gives}
use Rattle.chain_core.specs.declared.frames.Frames.{Frames}
use Rattle.chain_core.specs.Rest.{course}
use Rattle.chain_core.specs.Moves.{was_stopped}

-- a call that is stopped leaves that, and no other does
abbrev pub Stops : Course → Did → Type 0
Stops s did = did.state.stopped ≡ was_stopped did.failure || s.stopped

mark_stops : (s : Course) (d : Deed) (m : Mark) (rest : List Mark) → Stops s (with_result (taking s m rest) (by_mark d m))
mark_stops s d (Ran word now bad) rest = refl
mark_stops s d (Fault slot sent) rest = refl
mark_stops s d (Bad slot len found sent) rest = refl
mark_stops s d Stop rest = refl

fitted : (b : Bool) (x did : Did) → where_mark_fits b x ≡ gives did → x ≡ did
fitted true x did e = gives_is e
fitted false x did e = absurd (unfit_not_gives e)

take_stops : (c : Call) (s : Course) (d : Deed) (ms : List Mark) (did : Did) → take_mark c s d ms ≡ gives did → Stops s did
take_stops c s d [] did e = absurd (waits_not_gives e)
take_stops c s d (m ∷ ms) did e = subst (Stops s) (fitted (fits d m) (with_result (taking s m ms) (by_mark d m)) did e) (mark_stops s d m ms)

act_stops : (c : Call) (s : Course) (a : Or Act) (did : Did) → do_act c s a ≡ gives did → Stops s did
act_stops c s (Err r) did e = subst (Stops s) (gives_is e) refl
act_stops c s (Ok (changes g)) did e = subst (Stops s) (gives_is e) refl
act_stops c s (Ok (deed d)) did e = take_stops c s d s.marks did e

service_stops : (c : Call) (user : Text) (x : Option Service) (s : Course) (did : Did) → do_service c user x s ≡ gives did → Stops s did
service_stops c user None s did e = subst (Stops s) (gives_is e) refl
service_stops c user (Some nothing) s did e = subst (Stops s) (gives_is e) refl
service_stops c user (Some (operation op)) s did e = act_stops c s (row s.grid user op) did e
service_stops c user (Some (no_path place)) s did e = subst (Stops s) (gives_is e) refl

pub call_stops : (user : Text) (c : Call) (s : Course) (did : Did) → do_call user c s ≡ gives did → Stops s did
call_stops user c s did e = service_stops c user (service c) s did e

-- a machine that counts as the course does says nothing new of it
pub same_course : (m : Frames) (t : Course) → m.begun ≡ t.begun → m.stopped ≡ t.stopped → course m t ≡ t
same_course m t b p = λ i. record t { begun = b i; stopped = p i }
