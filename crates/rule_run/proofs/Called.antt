-- A call that was made of the doer, by what was called.
use Rattle.std.proofs.Common.{◌≡◌, ℕ, suc, ◌+◌, ◌*◌, ◌^◌, ◌≤◌, List, Option, Some, None, Result, Ok, Err, IsErrOf, IsTrue, refl, sym, ap}
use Rattle.std.proofs.Common.{◌∙◌, arith}
use Rattle.std.specs.Prelude.{⊤, IfOk}
use Rattle.grid_outside.specs.Ambient.{AmbientState}
use Rattle.grid_outside.specs.Disk.{DiskState}
use Rattle.grid_outside.specs.Files.{StoreState}
use Rattle.grid_outside.specs.Sink.{SinkState}
use Rattle.grid_model.specs.Deltas.{all_fit, call as call_parts}
use Rattle.grid_model.specs.declared.calls.Call.{Call}
use Rattle.grid_model.specs.declared.refusal.Failure.{Failure}
use Rattle.chain_core.specs.Answers.{failure_in}
use Rattle.chain_run.specs.Calls.{Made, stop_of}
use Rattle.chain_run.specs.Places.{Performs, Recovers}
use Rattle.grid_model.specs.RowGrids.{grid_of}
use Rattle.size_laws.specs.Within.{IsWithin, TakesAtMost, many}
use Rattle.run_laws.specs.Passes.{CallsPass}
use Rattle.service_run.specs.Commands.{place_by}
use Rattle.service_run.specs.declared.ending.Ending.{Ending}
use Rattle.service_run.specs.declared.ending.Ending.TheVariants as ending
use Rattle.rule_run.specs.Calls.{Called, Did, MayGoOn, Performed, Recovered, Spot, performed, recovered, refused}
use Rattle.rule_run.proofs.Doing.{performs_so, recovers_so}
use Rattle.rule_run.proofs.Passing.{passes_as, passes_none}
use Rattle.rule_run.proofs.Ready.{goes_on, no_source}
use Rattle.std.proofs.Math.Nat.{suc-mul}

stopped_as : {A : Type 0} (result : Result A Ending) (e : Ending) → stop_of result ≡ Some e → IsErrOf result e
stopped_as (Ok x) e is = absurd cc
stopped_as (Err f) e is = cc

-- one that was not stopped came to something
on_within : {T : Type 0} {W : Type 0} (result : Result T Ending) → IfOk result (λ x. W) → stop_of result ≡ None → W
on_within (Ok x) within on = within
on_within (Err e) within on = absurd (cc on)

one_more : (n each : ℕ) → (n + 1) * each ≡ n * each + each
one_more n each = ap (λ k. k * each) (let same : n + 1 ≡ suc n = omega arith in same) ∙ suc-mul n each ∙ omega arith

-- the call, with the recoveries that a stop of it has done, as it came out there
abbrev pub made_there : {A D P K T : Type 0} → Spot D A P K → Call → List Call → Result T Ending → Made Ending
made_there at c undo result = record { call = c; undo = undo; place = place_by at.rows.cat at.command; stop = stop_of result }

no_other : (o : Option Ending) (e f : Ending) → o ≡ Some e → (e ≡ f → ⊥) → o ≡ Some f → ⊥
no_other o e f is not other = let same : Some e ≡ Some f = sym is ∙ other in not cc

module _ {D A P K : Type 0} (disk : D → DiskState) (ambient : A → AmbientState) (plugin : P → StoreState) (sink : K → SinkState) where
  -- nothing was called
  pub called_none : (at : Spot D A P K) (x : Made Ending) → x.place ≡ place_by at.rows.cat at.command → x.stop ≡ Some ending.Memory
      → Called disk ambient plugin sink at x at
  called_none at x place stop = record {
    place = place;
    did = refused stop refl;
    passes = passes_none disk plugin sink (x.stop ≡ Some ending.Disk) (x.stop ≡ Some ending.Sink) (no_other x.stop ending.Memory ending.Disk stop (λ e. cc))
        (no_other x.stop ending.Memory ending.Sink stop (λ e. cc)) at.seen;
    drawn = λ each most. omega arith;
    within = λ on is. is;
  }

  module _ (a b : Spot D A P K) (c : Call) (undo : List Call)
      (drawn : (each : ℕ) → TakesAtMost (grid_of a.rows.cat) each → b.seen.outside.moments ≤ a.seen.outside.moments + each) (one : a.left ≡ b.left + 1)
    where
      draws : (each : ℕ) → TakesAtMost (grid_of a.rows.cat) each → b.seen.outside.moments + b.left * each ≤ a.seen.outside.moments + a.left * each
      draws each most =
          let left : a.left * each ≡ b.left * each + each = ap (λ n. n * each) one ∙ one_more b.left each in
          omega (arith, drawn each most, left)

      room : b.seen.outside.moments + b.left * 2 ^ 65 ≤ a.seen.outside.moments + a.left * 2 ^ 65
      room = draws (2 ^ 65) many

      called_as : {T : Type 0} (result : Result T Ending) → CallsPass disk plugin sink (IsErrOf result ending.Disk) (IsErrOf result ending.Sink) a.seen b.seen
          → Did disk ambient plugin sink a (made_there a c undo result) b
          → IfOk result (λ ran. IsWithin (grid_of a.rows.cat) → IsWithin (grid_of b.rows.cat))
          → Called disk ambient plugin sink a (made_there a c undo result) b
      called_as result passes did within = record {
        place = refl;
        did = did;
        passes = passes_as disk plugin sink (IsErrOf result ending.Disk) (IsErrOf result ending.Sink) (stop_of result ≡ Some ending.Disk)
            (stop_of result ≡ Some ending.Sink) a.seen b.seen (λ f. ap stop_of f) (stopped_as result ending.Disk) (stopped_as result ending.Sink) passes;
        drawn = draws;
        within = on_within result within;
      }

      -- ---- a micro-service

      step_within : (result : Result (Result ⊤ Failure) Ending) → (may : MayGoOn disk ambient plugin sink a)
          → Performed disk ambient plugin sink a (made_there a c undo result) result b
          → IfOk result (λ ran. IsWithin (grid_of a.rows.cat) → IsWithin (grid_of b.rows.cat))
      step_within (Ok ran) may step = (step no_source may.held.0 may.held.1).ends.beside.within
      step_within (Err e) may step = tt

      pub called_performed : (result : Result (Result ⊤ Failure) Ending) → (may : MayGoOn disk ambient plugin sink a)
          → CallsPass disk plugin sink (IsErrOf result ending.Disk) (IsErrOf result ending.Sink) a.seen b.seen
          → Performed disk ambient plugin sink a (made_there a c undo result) result b → Called disk ambient plugin sink a (made_there a c undo result) b
      called_performed result may passes step = called_as result passes (performed result refl step) (step_within result may step)

      pub performs_there : (result : Result (Result ⊤ Failure) Ending) → (may : MayGoOn disk ambient plugin sink a)
          → Performed disk ambient plugin sink a (made_there a c undo result) result b
          → IfOk result (λ ran. Performs c ran (place_by a.rows.cat a.command) (place_by b.rows.cat b.command))
      performs_there result may step = performs_so _ _ may.held.0 a.rows a.command c undo b.rows b.command result (step no_source may.held.0 may.held.1)

      pub ready_performed : (result : Result (Result ⊤ Failure) Ending) → (may : MayGoOn disk ambient plugin sink a) → IsTrue (all_fit (call_parts c))
          → CallsPass disk plugin sink (IsErrOf result ending.Disk) (IsErrOf result ending.Sink) a.seen b.seen
          → Performed disk ambient plugin sink a (made_there a c undo result) result b → IfOk result (λ ran. MayGoOn disk ambient plugin sink b)
      ready_performed (Ok ran) may fits passes step =
          goes_on disk ambient plugin sink a b may c undo b.command ran may.held.0 (step no_source may.held.0 may.held.1) _ _ passes room fits None tt refl
      ready_performed (Err e) may fits passes step = tt

      -- ---- a recovery

      round_within : (result : Result (Option Failure) Ending) → (may : MayGoOn disk ambient plugin sink a)
          → Recovered disk ambient plugin sink a (made_there a c undo result) result b
          → IfOk result (λ failure. IsWithin (grid_of a.rows.cat) → IsWithin (grid_of b.rows.cat))
      round_within (Ok failure) may runs = (runs no_source may.held.0 may.held.1).0.step.ends.beside.within
      round_within (Err e) may runs = tt

      pub called_recovered : (result : Result (Option Failure) Ending) → (may : MayGoOn disk ambient plugin sink a)
          → CallsPass disk plugin sink (IsErrOf result ending.Disk) (IsErrOf result ending.Sink) a.seen b.seen
          → Recovered disk ambient plugin sink a (made_there a c undo result) result b → Called disk ambient plugin sink a (made_there a c undo result) b
      called_recovered result may passes runs = called_as result passes (recovered result refl runs) (round_within result may runs)

      pub recovers_there : (result : Result (Option Failure) Ending) → (may : MayGoOn disk ambient plugin sink a)
          → Recovered disk ambient plugin sink a (made_there a c undo result) result b
          → IfOk result (λ failure. Recovers c failure (place_by a.rows.cat a.command) (place_by b.rows.cat b.command))
      recovers_there result may runs = recovers_so _ _ may.held.0 a.rows a.command c undo b.rows b.command result (runs no_source may.held.0 may.held.1)

      pub ready_recovered : (result : Result (Option Failure) Ending) → (may : MayGoOn disk ambient plugin sink a) → IsTrue (all_fit (call_parts c))
          → CallsPass disk plugin sink (IsErrOf result ending.Disk) (IsErrOf result ending.Sink) a.seen b.seen
          → Recovered disk ambient plugin sink a (made_there a c undo result) result b → IfOk result (λ failure. MayGoOn disk ambient plugin sink b)
      ready_recovered (Ok failure) may fits passes runs =
          let r = (runs no_source may.held.0 may.held.1).0 in
          goes_on disk ambient plugin sink a b may c undo r.left r.ran may.held.0 r.step _ _ passes room fits (failure_in r.ran) r.shown r.over
      ready_recovered (Err e) may fits passes runs = tt
