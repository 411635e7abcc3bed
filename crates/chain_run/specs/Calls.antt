-- The calls that are made of a doer.
use Rattle.std.specs.Prelude.{◌≡◌, List, [], ◌∷◌, ◌++◌, All, Option, Some, None, Result, Ok, Err, ◌⊎◌}
use Rattle.grid_model.specs.declared.calls.Call.{Call}
use Rattle.chain_run.specs.Places.{Place}
use Rattle.chain_run.specs.declared.stop.RunStop.{RunStop}
use Rattle.chain_run.specs.declared.stop.RunStop.TheVariants as run

-- A call, the recoveries that a stop of it would have done, where the doer was before it, and the stop that it answered, if
-- it answered one.
pub record Made (Stop : Type 0) : Type 0 where
  pub call : Call
  pub undo : List Call
  pub place : Place
  pub stop : Option Stop

-- the stop that was answered, if one was
abbrev pub stop_of : {A Stop : Type 0} → Result A Stop → Option Stop
stop_of (Ok x) = None
stop_of (Err s) = Some s

-- it answered no stop
abbrev pub IsUnstopped : {Stop : Type 0} → Made Stop → Type 0
IsUnstopped x = x.stop ≡ None

-- none of the calls answered a stop, or the last one alone did, and this one
abbrev pub OnlyLastStops : {Stop : Type 0} → Option Stop → List (Made Stop) → Type 0
OnlyLastStops None xs = All IsUnstopped xs
OnlyLastStops {Stop} (Some s) xs =
    (before : List (Made Stop)) × (last : Made Stop) × (xs ≡ before ++ last ∷ []) × All IsUnstopped before × (last.stop ≡ Some s)

-- Calls were made, each of which was due: after whatever calls before them the doer went with these too. None but the last one
-- was stopped, and it by this.
pub record MakesCalls {S Stop : Type 0} (went : S → List (Made Stop) → S → Type 0) (Due : Made Stop → Type 0) (stop : Option Stop) (old new : S)
    : Type 0 where
  pub calls : List (Made Stop)
  pub went_so : went old calls new
  pub due : All Due calls
  pub stops : OnlyLastStops stop calls
  pub after : (from : S) (before : List (Made Stop)) → went from before old → went from (before ++ calls) new

-- the same, by why a run was given up, if it was: for want of memory, for a call that was stopped, or for a size that was not told
abbrev pub MakesCallsUntil : {S Stop : Type 0} → (S → List (Made Stop) → S → Type 0) → (Made Stop → Type 0) → (S → Stop → Type 0)
    → Option (RunStop Stop) → S → S → Type 0
MakesCallsUntil went Due no_size None old new = MakesCalls went Due None old new
MakesCallsUntil went Due no_size (Some run.Memory) old new = MakesCalls went Due None old new
MakesCallsUntil went Due no_size (Some (run.Stopped s)) old new =
    MakesCalls went Due (Some s) old new ⊎ (MakesCalls went Due None old new × no_size new s)
