-- One turn of a service: a request is read and handled, or the run ends.
use Rattle.std.specs.Prelude.{◌≡◌, ◌⊎◌, ℕ, ◌+◌, ◌^◌, Bool, true, false, ◌||◌, Option, Some, None, Result, Ok, Err, ⊤}
use Rattle.grid_outside.specs.Source.{SourceState}
use Rattle.grid_outside.specs.declared.outside.Wear.TheVariants.{Vaults}
use Rattle.grid_model.specs.Names.{Text}
use Rattle.grid_model.specs.Runs as runs
use Rattle.grid_deed.specs.Safe.{KeepWhole}
use Rattle.grid_headline.specs.Worlds.{World}
use Rattle.run_laws.specs.Moments.{GoesOnInFew}
use Rattle.run_laws.specs.Steps.{RemovesNoFile, RequestStep}
use Rattle.run_laws.specs.declared.around.Around.{Around}
use Rattle.req_lines.specs.Reading.{Input, input}
use Rattle.req_lines.specs.Hearing.{Hears, HearsNone, GoesOn, Stops, BreaksOff}
use Rattle.req_lines.specs.declared.requests.Heard.{Heard}
use Rattle.cmd_run.specs.Asking.{AsksForRequest, IsLineOf, ends_input}
use Rattle.cmd_run.specs.Fits.{state_of}
use Rattle.cmd_run.specs.Obeys.{Obeys, IsWorn, NamesItsCall, RemembersDeed}
use Rattle.cmd_run.specs.Sweeping.{SweepLeavesFew}
use Rattle.cmd_run.specs.declared.server.Server.{Server}
use Rattle.cmd_run.specs.declared.server.Ending.{Ending}
use Rattle.cmd_run.specs.declared.server.Ending.TheVariants as ending
use Rattle.grid_server.specs.declared.service.Service.{Service}
use Rattle.grid_server.specs.declared.status.Status.{Status}
use Rattle.grid_server.specs.declared.status.Status.TheVariants as status
use Rattle.grid_server.specs.Views.{Views, world_of}

-- ---- how a run goes on

-- the status of a run that ends so
abbrev pub status_of : Ending → Status
status_of ending.Disk = status.DiskFault
status_of ending.Sink = status.SinkFault
status_of ending.Memory = status.Memory
status_of (ending.Worn what place) = status.Worn what place

-- the request is the last one
abbrev pub is_last : Heard → Bool
is_last heard = heard.ends || ends_input heard.asked

-- the status after a request that was handled so, if the run ends
abbrev pub after : Bool → Result ⊤ Ending → Option Status
after last (Ok done) = elim last [ true ↦ Some status.Done | false ↦ None ]
after last (Err e) = Some (status_of e)

-- ---- one request

-- a request, the server before it, and its number
pub record Command : Type 0 where
  pub before : Server
  pub number : ℕ
  pub heard : Heard

-- It was handled, and so the run goes on or ends.
pub record Commanded {B : Type 0} (old new : World B) (c : Command) (result : Result ⊤ Ending) (after : Server) : Type 0 where
  pub obeys : (request : runs.Request) → AsksForRequest (state_of c.before) c.heard.asked c.heard.body request
      → Obeys old new c.before c.number request result after
  pub worn : (request : runs.Request) → AsksForRequest (state_of c.before) c.heard.asked c.heard.body request → IsWorn new c.before request result
  pub whole : KeepWhole old.plugin old.moments c.before.store.cat old.main new.main old.stores new.stores
  pub call : (line : Text) → IsLineOf c.heard.asked c.heard.line line → NamesItsCall line old.moments old.main new.main
  pub remembers : (request : runs.Request) → AsksForRequest (state_of c.before) c.heard.asked c.heard.body request → RemovesNoFile request
      → RemembersDeed c.heard.line c.before.store.cat old.moments old.main new.main
  pub moments : GoesOnInFew old new c.before.store.cat
  pub few : (request : runs.Request) → AsksForRequest (state_of c.before) c.heard.asked c.heard.body request
      → SweepLeavesFew old new c.before request result after

-- ---- one turn

-- what a service reads
abbrev pub input_of : Service → SourceState → Input
input_of s source = input s.requests source

-- the next request of a service
abbrev pub command_of : Service → Heard → Command
command_of s heard = record { before = s.server; number = s.number + 1; heard = heard }

module _ {D S K A P : Type 0} (v : Views D S K A P) where
  -- nothing was called, or the request was begun
  abbrev pub IsUncalledOrBegun : Around D S K A P → Around D S K A P → Command → Type 0
  IsUncalledOrBegun old new c = ((new.outside ≡ old.outside) × (new.sink ≡ old.sink))
      ⊎ ((request : runs.Request) → AsksForRequest (state_of c.before) c.heard.asked c.heard.body request
      → RequestStep (world_of v old) (world_of v new) (state_of c.before) c.before.store.cat c.number request)

  -- what was read, and what was done for it
  pub data TakesTurn (old new : Around D S K A P) (was now : Service) (result : Option Status) : Type 0 where
    handled : (heard : Heard) (r : Result ⊤ Ending) → result ≡ after (is_last heard) r
        → Hears (input_of was (v.source old.source)) (input_of now (v.source new.source)) heard
        → now.number ≡ was.number + 1
        → Commanded (world_of v (record old { source = new.source })) (world_of v new) (command_of was heard) r now.server
        → ((place : ℕ) → r ≡ Err (ending.Worn Vaults place) → IsUncalledOrBegun (record old { source = new.source }) new (command_of was heard))
        → TakesTurn old new was now result
    none_left : result ≡ Some status.Done → HearsNone (input_of was (v.source old.source)) (input_of now (v.source new.source))
        → new ≡ record old { source = new.source } → TakesTurn old new was now result
    too_long : result ≡ Some (status.Long (2 ^ 48 + 1)) → GoesOn (input_of was (v.source old.source)) (input_of now (v.source new.source))
        → new ≡ record old { source = new.source } → TakesTurn old new was now result
    broken_off : result ≡ Some status.SourceFault → BreaksOff (input_of was (v.source old.source)) (v.source new.source)
        → new ≡ record old { source = new.source } → TakesTurn old new was now result
    no_memory : result ≡ Some status.Memory → Stops (input_of was (v.source old.source)) (v.source new.source) → new ≡ record old { source = new.source }
        → TakesTurn old new was now result
