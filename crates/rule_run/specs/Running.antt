-- What running rules for a request leaves, to their end or cut short.
use Rattle.std.specs.Prelude.{◌≡◌, ◌^◌, ◌<◌, List, [], ◌++◌, Result, Ok, Err, IsTrue}
use Rattle.grid_outside.specs.Ambient.{AmbientState}
use Rattle.grid_outside.specs.Disk.{DiskState}
use Rattle.grid_outside.specs.Files.{StoreState}
use Rattle.grid_outside.specs.Sink.{SinkState}
use Rattle.grid_outside.specs.Source.{SourceState}
use Rattle.grid_outside.specs.declared.outside.Wear.TheVariants as wear
use Rattle.grid_model.specs.Rows.{Cat}
use Rattle.grid_model.specs.RuleText.{Rule}
use Rattle.grid_model.specs.Values.{Env, Value}
use Rattle.grid_model.specs.Meanings.{Meaning, Waiting, gives, waits}
use Rattle.grid_model.specs.Names.{Text}
use Rattle.grid_model.specs.Chains.{Named, call_rule}
use Rattle.grid_model.specs.Sessions.{State}
use Rattle.grid_model.specs.Runs.{Request, does}
use Rattle.grid_model.specs.declared.calls.Call.{Call}
use Rattle.grid_model.specs.declared.marks.Mark.{Mark}
use Rattle.grid_journal.specs.Journal.{Journal, ClosesAt}
use Rattle.grid_journal.specs.Stands.{StandsFor}
use Rattle.grid_headline.specs.Numbers.{last_vault}
use Rattle.run_laws.specs.Passes.{Seen}
use Rattle.chain_core.specs.Rest.{course, outcome_of}
use Rattle.chain_core.specs.declared.actions.Outcome as told
use Rattle.chain_core.specs.declared.frames.Frames.{Frames}
use Rattle.chain_run.specs.declared.stop.RunStop.{RunStop}
use Rattle.chain_run.specs.declared.stop.RunStop.TheVariants as run
use Rattle.chain_run.specs.Places.{Place, course_from}
use Rattle.chain_run.specs.Runs.{by_itself, whole_from}
use Rattle.chain_laws.specs.Ending.{AreRan, leaving}
use Rattle.service_run.specs.Commands.{place_by}
use Rattle.service_run.specs.declared.command.Command.{Command}
use Rattle.service_run.specs.declared.ending.Ending.{Ending}
use Rattle.service_run.specs.declared.ending.Ending.TheVariants as ending
use Rattle.call_laws.specs.Amid.{IsAmid, IsCutShort}
use Rattle.rule_run.specs.Asked.{asked_setting}

-- a call by itself from a place on, with these marks still to come
abbrev pub alone_from : List Rule → Env → Call → List Value → Place → List Mark → Meaning Named
alone_from rules env call vs p later = by_itself rules env call vs (course_from p later)

-- the rules of a name from a place on, where the machine counts, with these marks still to come
abbrev pub point_from : List Rule → Env → Text → Frames → Place → List Mark → Meaning Named
point_from rules env name m p later = whole_from (call_rule rules env name []) m p later

-- how a command ends whose run came to that
abbrev pub ended_by : Result told.Outcome (RunStop Ending) → Result told.Outcome Ending
ended_by (Ok outcome) = Ok outcome
ended_by (Err run.Memory) = Err ending.Memory
ended_by (Err (run.Stopped e)) = Err e

-- Where what is run waits behind these marks, so does the request.
abbrev pub WaitsWith : State → Request → (List Mark → Meaning Named) → List Mark → Type 0
WaitsWith at request whole taken = (more : List Mark) (w : Waiting) → whole more ≡ waits w → does at request (taken ++ more) ≡ waits w

module _ {D A P K : Type 0} (disk : D → DiskState) (ambient : A → AmbientState) (plugin : P → StoreState) (sink : K → SinkState) (source : SourceState)
    (at : State) (request : Request) (before : Cat) (x : Command) (text_of : List Mark → Text) (from new : Seen D A P K)
    (whole : List Mark → Meaning Named) (taken : List Mark) where
  -- It was run to its end, with these marks more, and the machine counts so from then on.
  pub record RunsOn (m : Frames) (outcome : told.Outcome) (y : Command) (rows : Journal) : Type 0 where
    pub more : List Mark
    pub amid : IsAmid disk ambient plugin sink source (asked_setting at request before x text_of) from new y rows (taken ++ more)
    pub gives_so : (later : List Mark) → whole (more ++ later)
        ≡ gives (record { state = course m (course_from (place_by rows.cat y) later); outcome = outcome_of outcome })

  -- It was cut short behind these marks more, and with others behind them it would have come to an end.
  pub record IsRunShort : Type 0 where
    pub more : List Mark
    pub cut : IsCutShort disk ambient plugin sink source (asked_setting at request before x text_of) from new (taken ++ more)
    pub rest : List Mark
    pub ran : AreRan rest
    pub end : Named
    pub gives_so : (later : List Mark) → whole (more ++ (rest ++ later)) ≡ gives (leaving later end)

  -- what has run out: the numbers of vault files, by what main stands for, or the room behind the log
  abbrev pub HasRunDry : Ending → Type 0
  HasRunDry (ending.Worn wear.Vaults place) =
      (last_vault < place) × (IsTrue (disk from.outside.main).tells → (c : Cat) × StandsFor (disk new.outside.main).holds c × (c.numbers.next_vault ≡ place))
  HasRunDry (ending.Worn wear.Log place) = (2 ^ 62 < place) × (IsTrue (disk from.outside.main).tells → ClosesAt (disk new.outside.main).holds place)
  HasRunDry (ending.Worn wear.Runs place) = ⊥
  HasRunDry other = Unit {0}

  -- how it ended, where the machine counts so from then on
  abbrev pub RunEnds : Frames → Result told.Outcome Ending → Command → Journal → Type 0
  RunEnds m (Ok outcome) y rows = RunsOn m outcome y rows
  RunEnds m (Err e) y rows = IsRunShort × HasRunDry e
