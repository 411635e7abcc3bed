-- What a service has done so far, and how its run ends.
use Rattle.std.specs.Prelude.{◌≡◌, ℕ, ◌+◌, ◌*◌, ◌^◌, ◌≤◌, List, [], ◌++◌, length, vec_len, IsTrue}
use Rattle.std.specs.List.{AllByRecursion}
use Rattle.grid_outside.specs.Sink.{SinkState}
use Rattle.grid_outside.specs.Source.{SourceState}
use Rattle.grid_deed.specs.Frame.{Goes as DeviceGoes}
use Rattle.grid_model.specs.Inputs.{Asked}
use Rattle.grid_model.specs.Names.{Text}
use Rattle.grid_model.specs.Rows.{Cat}
use Rattle.grid_model.specs.RuleText.{Rule}
use Rattle.grid_headline.specs.Headline.{BeginsOn}
use Rattle.grid_headline.specs.Reads.{EndsInput}
use Rattle.run_laws.specs.declared.around.Around.{Around}
use Rattle.run_laws.specs.Opening.{Opened}
use Rattle.run_laws.specs.Sofar.{Sofar}
use Rattle.req_lines.specs.Progress.{HasHeard}
use Rattle.cmd_run.specs.Fits.{state_of, FitsMain}
use Rattle.cmd_run.specs.declared.server.Server.{Server}
use Rattle.grid_server.specs.declared.service.Service.{Service}
use Rattle.grid_server.specs.declared.status.Status.{Status}
use Rattle.grid_server.specs.declared.status.Status.TheVariants as status
use Rattle.grid_server.specs.Turning.{input_of}
use Rattle.grid_server.specs.Views.{Views, WasRead, world_of, PassesOn}
use Rattle.run_laws.specs.Moments.{OpensInFew}

-- a status with which a run ends that was begun
abbrev pub EndsBegun : Status → Type 0
EndsBegun status.Done = Unit {0}
EndsBegun status.DiskFault = Unit {0}
EndsBegun status.SourceFault = Unit {0}
EndsBegun status.SinkFault = Unit {0}
EndsBegun status.Memory = Unit {0}
EndsBegun (status.Long taken) = Unit {0}
EndsBegun (status.Worn what place) = Unit {0}
EndsBegun other = ⊥

-- so many bytes of the source were taken, at most one more than are read
pub record TookFew (old new : SourceState) : Type 0 where
  pub taken : Text
  pub split : old.left ≡ taken ++ new.left
  pub few : length taken ≤ 2 ^ 48 + 1

-- a sink was called at most once, by the next moment
pub record SinkWent (from to : ℕ) (old new : SinkState) : Type 0 where
  pub drawn_from : from ≤ to
  pub drawn : to ≤ from + 1
  pub last : old.last ≤ from → new.last ≤ to
  pub goes : DeviceGoes from old new

module _ {D S K A P : Type 0} (v : Views D S K A P) where
  -- all that was around the run, with the source as it is now
  abbrev pub before : Around D S K A P → Around D S K A P → Around D S K A P
  before e a = record e { source = a.source }

  -- the run was opened in between, over the first catalogue, with the second, and these rules
  pub record WasOpened (old now : Around D S K A P) (found begun : Cat) (rules : List Rule) : Type 0 where
    pub begin : BeginsOn (world_of v old) found
    pub opened : Opened (world_of v old) (world_of v now) found begun
    pub few : OpensInFew (world_of v old) (world_of v now) found
    pub rules_are : opened.opens.undone.rules ≡ rules

  -- it was begun in between, over this catalogue: this is the server, and nothing was asked of it yet
  pub record IsBegun (old now : Around D S K A P) (found : Cat) (s : Server) : Type 0 where
    pub begin : BeginsOn (world_of v old) found
    pub so : Sofar (world_of v old) (world_of v now) found s.store.cat (state_of s) []

  -- These requests were read and answered since the run was begun, and none of them ended the input.
  pub record HasAnswered (from : Server) (start now : Around D S K A P) (s : Service) (asked : List Asked) : Type 0 where
    pub heard : HasHeard (v.source start.source) (input_of s (v.source now.source)) asked
    pub many : s.number ≡ length asked
    pub none_end : AllByRecursion (λ a. ¬ EndsInput a) asked
    pub so : (e : Around D S K A P) (found : Cat) → IsBegun (before e start) start found from
        → Sofar (world_of v (before e start)) (world_of v now) found s.server.store.cat (state_of s.server) asked

  -- Where a service is that began so.
  pub record IsAfter (from : Server) (start now : Around D S K A P) (s : Service) : Type 0 where
    pub fits : FitsMain (v.disk now.outside.main) s.server
    pub slots : s.server.store.cat.stores ≡ vec_len now.outside.stores
    pub within : s.number + length s.requests.unread ≤ s.requests.taken
    pub most : s.requests.taken ≤ 2 ^ 48
    pub passes : PassesOn v ⊥ ⊥ start now
    pub drawn : now.outside.moments ≤ start.outside.moments + s.number * 2 ^ 79
    pub source : WasRead (v.source start.source) (v.source now.source)
    pub answered : IsTrue (v.source start.source).tells → (asked : List Asked) × HasAnswered from start now s asked
