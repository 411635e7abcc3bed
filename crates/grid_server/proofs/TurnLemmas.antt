-- How a run goes on or ends after a request.
use Rattle.std.proofs.Common.{◌≡◌, ℕ, Bool, true, false, refl, sym, ap, ◌∙◌}
use Rattle.std.specs.Prelude.{Some, None, Result, Ok, Err, ⊤}
use Rattle.grid_outside.specs.declared.outside.Wear.{Wear}
use Rattle.cmd_run.specs.declared.server.Ending.{Ending}
use Rattle.cmd_run.specs.declared.server.Ending.TheVariants as ending
use Rattle.grid_server.specs.Turning.{status_of, after}
use Rattle.grid_server.specs.declared.status.Status.{Status}
use Rattle.grid_server.specs.declared.status.Status.TheVariants as status

-- ---- what a status tells of the request

status_worn : (what : Wear) (place : ℕ) (e : Ending) → status_of e ≡ status.Worn what place → e ≡ ending.Worn what place
status_worn what place (ending.Worn w p) is = let a : w ≡ what = cc in let b : p ≡ place = cc in cc
status_worn what place ending.Disk is = absurd (cc is)
status_worn what place ending.Sink is = absurd (cc is)
status_worn what place ending.Memory is = absurd (cc is)

pub some_is : {x y : Status} → Some x ≡ Some y → x ≡ y
some_is e = cc e

module _ (s : Status) (other : s ≡ status.Done → ⊥) where
  -- a status other than Done is that of an ending
  pub ending_behind : (last : Bool) (r : Result ⊤ Ending) → after last r ≡ Some s → (e : Ending) × (r ≡ Err e) × (status_of e ≡ s)
  ending_behind last (Err e) is = (e, refl, some_is is)
  ending_behind true (Ok done) is = absurd (other (sym (some_is is)))
  ending_behind false (Ok done) is = absurd (cc is)

pub after_worn : (what : Wear) (place : ℕ) (last : Bool) (r : Result ⊤ Ending) → after last r ≡ Some (status.Worn what place) → r ≡ Err (ending.Worn what place)
after_worn what place last r is = let b = ending_behind (status.Worn what place) (λ e. cc) last r is in b.1 ∙ ap Err (status_worn what place b.0 b.2)

-- a request after which the run goes on was handled whole, and is not the last one
pub goes_on : (last : Bool) (r : Result ⊤ Ending) → after last r ≡ None → (last ≡ false) × ((done : ⊤) × (r ≡ Ok done))
goes_on last (Err e) is = absurd (cc is)
goes_on true (Ok done) is = absurd (cc is)
goes_on false (Ok done) is = (refl, (done, refl))
