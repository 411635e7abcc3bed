-- The calls that were made for a command, one after another, and what they left.
use Rattle.std.specs.Prelude.{◌≡◌, ℕ, ◌+◌, ◌*◌, ◌^◌, ◌≤◌, List, [], ◌∷◌, ◌++◌, Option, Some, None, Result, IsTrue, ⊤, length}
use Rattle.grid_outside.specs.Ambient.{AmbientState}
use Rattle.grid_outside.specs.Disk.{DiskState}
use Rattle.grid_outside.specs.Files.{StoreState}
use Rattle.grid_outside.specs.Sink.{SinkState}
use Rattle.grid_outside.specs.Source.{SourceState}
use Rattle.grid_model.specs.Applying.{is_user}
use Rattle.grid_model.specs.Rows.{Cat}
use Rattle.grid_model.specs.RowGrids.{grid_of, user_name}
use Rattle.grid_model.specs.Doing.{do_call}
use Rattle.grid_model.specs.declared.refusal.Failure.{Failure}
use Rattle.grid_journal.specs.Journal.{Journal}
use Rattle.grid_deed.specs.Held.{IsHeld}
use Rattle.size_laws.specs.Within.{IsWithin, TakesAtMost}
use Rattle.grid_headline.specs.Worlds.{World}
use Rattle.chain_run.specs.Calls.{Made, stop_of}
use Rattle.run_laws.specs.Around.{around}
use Rattle.run_laws.specs.Passes.{AreReady, CallsPass, Seen}
use Rattle.service_run.specs.Commands.{place_by}
use Rattle.service_run.specs.Steps.{IsStep}
use Rattle.service_run.specs.declared.command.Command.{Command}
use Rattle.service_run.specs.declared.ending.Ending.{Ending}
use Rattle.service_run.specs.declared.ending.Ending.TheVariants as ending
use Rattle.call_laws.specs.OneCall.{AreKeepable, IsKeepable, RoundEnds}

-- Where calls have come to: the devices, the rows in memory and the command, and how many calls more may be made.
pub record Spot (D A P K : Type 0) : Type 0 where
  pub seen : Seen D A P K
  pub rows : Journal
  pub command : Command
  pub left : ℕ

module _ {D A P K : Type 0} (disk : D → DiskState) (ambient : A → AmbientState) (plugin : P → StoreState) (sink : K → SinkState) where
  -- what is around there
  abbrev pub world_at : SourceState → Spot D A P K → World P
  world_at source at = around disk ambient plugin at.seen.outside (sink at.seen.sink) source

  -- A call of the command may be made there: the catalogue is held, the user is there, what is noted may be kept, and there are moments enough.
  pub record MayGoOn (at : Spot D A P K) : Type 0 where
    pub held : (kept : Cat) × IsHeld kept (disk at.seen.outside.main) at.rows
    pub user : IsTrue (is_user at.rows.cat at.command.user)
    pub slots : at.rows.cat.stores ≡ length at.seen.outside.stores.items
    pub words : IsKeepable at.command
    pub kept : AreKeepable at.command []
    pub ready : AreReady disk plugin sink (at.left * 2 ^ 65) at.seen

  -- the call was made as a micro-service, and came to this
  abbrev pub Performed : Spot D A P K → Made Ending → Result (Result ⊤ Failure) Ending → Spot D A P K → Type 0
  Performed from x result to = (source : SourceState) (kept : Cat) → IsHeld kept (disk from.seen.outside.main) from.rows
      → IsStep (world_at source from) (world_at source to) kept from.rows from.command x.call x.undo to.command to.rows
      (do_call (user_name from.rows.cat from.command.user) x.call) result

  -- the call was made as a recovery, and came to this
  abbrev pub Recovered : Spot D A P K → Made Ending → Result (Option Failure) Ending → Spot D A P K → Type 0
  Recovered from x result to = (source : SourceState) (kept : Cat) → IsHeld kept (disk from.seen.outside.main) from.rows
      → RoundEnds (world_at source from) (world_at source to) kept from.rows from.command x.call x.undo to.rows result to.command

  -- what was called: nothing, for want of memory, a micro-service, or a recovery
  pub data Did (from : Spot D A P K) (x : Made Ending) (to : Spot D A P K) : Type 0 where
    refused : x.stop ≡ Some ending.Memory → to ≡ from → Did from x to
    performed : (result : Result (Result ⊤ Failure) Ending) → x.stop ≡ stop_of result → Performed from x result to → Did from x to
    recovered : (result : Result (Option Failure) Ending) → x.stop ≡ stop_of result → Recovered from x result to → Did from x to

  -- One call was made, from the one to the other.
  pub record Called (from : Spot D A P K) (x : Made Ending) (to : Spot D A P K) : Type 0 where
    pub place : x.place ≡ place_by from.rows.cat from.command
    pub did : Did from x to
    pub passes : CallsPass disk plugin sink (x.stop ≡ Some ending.Disk) (x.stop ≡ Some ending.Sink) from.seen to.seen
    pub drawn : (each : ℕ) → TakesAtMost (grid_of from.rows.cat) each
        → to.seen.outside.moments + to.left * each ≤ from.seen.outside.moments + from.left * each
    -- where it was not stopped a grid within the limits is still so
    pub within : x.stop ≡ None → IsWithin (grid_of from.rows.cat) → IsWithin (grid_of to.rows.cat)

  -- These calls were made one after another.
  pub data Chain (from : Spot D A P K) : List (Made Ending) → Spot D A P K → Type 0 where
    none : {calls : List (Made Ending)} {to : Spot D A P K} → calls ≡ [] → to ≡ from → Chain from calls to
    more : {calls : List (Made Ending)} {to : Spot D A P K} (before : List (Made Ending)) (mid : Spot D A P K) (x : Made Ending)
        → calls ≡ before ++ x ∷ [] → Chain from before mid → Called mid x to → Chain from calls to
