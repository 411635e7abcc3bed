-- What a request leaves whose call of a rule or of a micro-service was run, and the rest of its reply told.
use Rattle.std.specs.Prelude.{◌≡◌, ℕ, ◌^◌, ◌<◌, List, [], None, Result, Ok, Err, IsTrue, ⊤}
use Rattle.grid_outside.specs.Ambient.{AmbientState}
use Rattle.grid_outside.specs.Device.{IsSettled}
use Rattle.grid_outside.specs.Disk.{DiskState}
use Rattle.grid_outside.specs.Files.{StoreState}
use Rattle.grid_outside.specs.Sink.{SinkState}
use Rattle.grid_outside.specs.Source.{SourceState}
use Rattle.grid_outside.specs.declared.outside.Wear.TheVariants as wear
use Rattle.grid_model.specs.Names.{Text}
use Rattle.grid_model.specs.Rows.{Cat}
use Rattle.grid_model.specs.RowGrids.{grid_of}
use Rattle.grid_model.specs.RuleText.{Rule}
use Rattle.grid_model.specs.Meanings.{mapped}
use Rattle.grid_model.specs.Values.{Env, Value}
use Rattle.grid_model.specs.Chains.{begin_step, call_rule, counted}
use Rattle.grid_model.specs.Obeying.{after_exec}
use Rattle.grid_model.specs.Orders.{Order}
use Rattle.grid_model.specs.Sessions.{State}
use Rattle.grid_model.specs.Working.{begun, end_of}
use Rattle.grid_model.specs.Runs.{Request, does}
use Rattle.grid_model.specs.declared.calls.Call.{Call}
use Rattle.grid_model.specs.declared.marks.Mark.{Mark}
use Rattle.grid_model.specs.declared.replies.End.{End}
use Rattle.grid_model.specs.declared.replies.End.TheVariants as end
use Rattle.grid_journal.specs.Journal.{ClosesAt, Journal}
use Rattle.grid_journal.specs.Stands.{StandsFor}
use Rattle.grid_deed.specs.Held.{IsHeld}
use Rattle.grid_deed.specs.Safe.{KeepWhole}
use Rattle.grid_headline.specs.Ends.{MakesFiles}
use Rattle.grid_headline.specs.Numbers.{last_vault}
use Rattle.grid_headline.specs.Worlds.{World}
use Rattle.run_laws.specs.Around.{around}
use Rattle.run_laws.specs.Passes.{Seen}
use Rattle.run_laws.specs.Steps.{IsHandledWhole, RequestStep}
use Rattle.run_laws.proofs.Users.{KeepsUsers}
use Rattle.chain_core.specs.declared.actions.Outcome as told
use Rattle.chain_core.specs.declared.actions.Outcome.TheVariants as outcome
use Rattle.service_run.specs.declared.command.Command.{Command}
use Rattle.service_run.specs.declared.ending.Ending.{Ending}
use Rattle.service_run.specs.declared.ending.Ending.TheVariants as ending
use Rattle.rule_run.specs.Asked.{IsOnWay}

-- ---- what is asked for

-- the request is a call by itself, whose arguments have these values
abbrev pub DoesCall : State → Request → List Rule → Env → Call → List Value → Type 0
DoesCall at request rules env call vs = (marks : List Mark)
    → does at request marks ≡ mapped (after_exec at) (begin_step (call_rule rules env) env.user vs call (counted (begun at.grid marks)))

-- the request asks for nothing that makes files, but what rules do
abbrev pub MakesNoFiles : Request → Type 0
MakesNoFiles request = (session : ℕ) (order : Order) → request ≡ Ok (session, order) → MakesFiles order → ⊥

-- how the outcome of rules ends a request: where no rule applied there is nothing to say
abbrev pub end_by : told.Outcome → End
end_by outcome.EndedWell = end.Done []
end_by (outcome.Failed f) = end_of f
end_by (outcome.Halted f) = end_of f
end_by outcome.NoneApplied = end.Done []

-- ---- what it leaves

-- Main and memory have the rows that the request left, with nothing staged or pending. What rows have beside the grid is as before, and
-- each user that was there keeps the name.
pub record IsRested (before : Cat) (main : DiskState) (after : Journal) : Type 0 where
  pub held : IsHeld after.cat main after
  pub staged : after.staged ≡ []
  pub pending : after.cat.pending ≡ None
  pub rules : after.cat.rules ≡ before.rules
  pub stores : after.cat.stores ≡ before.stores
  pub users : KeepsUsers before after.cat

module _ {D A P K : Type 0} (disk : D → DiskState) (ambient : A → AmbientState) (plugin : P → StoreState) (sink : K → SinkState) (source : SourceState)
    (at : State) (request : Request) (before : Cat) (x : Command) (from new : Seen D A P K) where
  abbrev old : World P
  old = around disk ambient plugin from.outside (sink from.sink) source

  abbrev now : World P
  now = around disk ambient plugin new.outside (sink new.sink) source

  -- what has run out: the numbers of vault files, by what main stands for, or the room behind the log
  abbrev pub HasRunOut : Ending → Type 0
  HasRunOut (ending.Worn wear.Vaults place) =
      (last_vault < place) × (IsTrue old.main.tells → (c : Cat) × StandsFor now.main.holds c × (c.numbers.next_vault ≡ place))
  HasRunOut (ending.Worn wear.Log place) = (2 ^ 62 < place) × (IsTrue old.main.tells → ClosesAt now.main.holds place)
  HasRunOut (ending.Worn wear.Runs place) = ⊥
  HasRunOut other = Unit {0}

  -- how it ended
  abbrev pub ExecuteEnds : RequestStep old now at before x.number request → Result ⊤ Ending → Journal → Type 0
  ExecuteEnds step (Ok done) after =
      IsHandledWhole old now at before x.number request step after.cat (record at { grid = grid_of after.cat }) × IsRested before (disk new.outside.main) after
  ExecuteEnds step (Err e) after = HasRunOut e

  -- The request was handled, or how far that came. What main may have of it at any moment has this command pending, or none, and has lost
  -- track of no file; and the files of stores are whole by that.
  pub record Executes (result : Result ⊤ Ending) (after : Journal) : Type 0 where
    pub step : RequestStep old now at before x.number request
    pub ends : ExecuteEnds step result after
    pub way : IsTrue old.main.tells → IsSettled old.main → (t : ℕ) (main : Text) (c : Cat) → old.moments < t → now.main.left t main → StandsFor main c
        → IsOnWay before x.line c
    pub whole : KeepWhole plugin old.moments before old.main now.main old.stores now.stores
