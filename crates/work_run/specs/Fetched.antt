-- A request whose file was sent as the deed of its get, or that was cut short there.
use Rattle.std.specs.Prelude.{ℕ, List, [], ◌∷◌, ◌++◌, Option, Some, Result, Ok, Err, decimal, ⊤}
use Rattle.grid_outside.specs.Ambient.{AmbientState}
use Rattle.grid_outside.specs.Disk.{DiskState}
use Rattle.grid_outside.specs.Files.{StoreState}
use Rattle.grid_outside.specs.Sink.{SinkState}
use Rattle.grid_outside.specs.Source.{SourceState}
use Rattle.grid_model.specs.Names.{Text}
use Rattle.grid_model.specs.Points.{Point}
use Rattle.grid_model.specs.Rows.{Cat}
use Rattle.grid_model.specs.Sessions.{State}
use Rattle.grid_model.specs.Runs.{Request}
use Rattle.grid_model.specs.Working.{Sent, end_of}
use Rattle.grid_model.specs.declared.marks.Mark.{Mark}
use Rattle.grid_model.specs.declared.refusal.Failure.{Failure}
use Rattle.grid_journal.specs.Journal.{Journal}
use Rattle.grid_headline.specs.Files.{IsKnown}
use Rattle.run_laws.specs.Around.{around}
use Rattle.run_laws.specs.Passes.{Seen}
use Rattle.service_run.specs.Commands.{place_by}
use Rattle.service_run.specs.Steps.{lines_of}
use Rattle.service_run.specs.declared.command.Command.{Command}
use Rattle.service_run.specs.declared.ending.Ending.{Ending}
use Rattle.call_laws.specs.Amid.{IsAmid, IsCutShort}
use Rattle.rule_run.specs.Asked.{asked_setting}
use Rattle.rule_run.specs.Executing.{Executes, HasRunOut}
use Rattle.work_run.specs.Behind.{IsBehind, IsEnded, from_worked}
use Rattle.work_run.specs.Telling.{TellsSo}

module _ {D A P K : Type 0} (disk : D → DiskState) (ambient : A → AmbientState) (plugin : P → StoreState) (sink : K → SinkState) (source : SourceState)
    (at : State) (request : Request) (before : Cat) (x : Command) (from new : Seen D A P K) (taken : List Mark) where
  -- ---- noted

  -- it was noted, or was cut short
  abbrev pub NoteEnds : Journal → Command → Result ⊤ Ending → Type 0
  NoteEnds after z (Ok done) = IsAmid disk ambient plugin sink source (asked_setting at request before x (lines_of x.number)) from new z after taken
  NoteEnds after z (Err e) =
      IsCutShort disk ambient plugin sink source (asked_setting at request before x (lines_of x.number)) from new taken
      × HasRunOut disk ambient plugin sink source at request before x from new e

  -- ---- sent

  -- what there is to do behind a file that was sent, or refused, whose replica has this number
  abbrev pub GoesOnBehind : Option Point → ℕ → ℕ → Journal → Command → Sent → List Mark → Result ⊤ Failure → Type 0
  GoesOnBehind p begun number after z sent marks (Ok done) = IsBehind at request marks (place_by after.cat z) begun
      (from_worked at p (record { words = decimal number ∷ []; rows = []; sent = Some sent }))
  GoesOnBehind p begun number after z sent marks (Err f) = IsEnded at request marks (place_by after.cat z) [] (Some sent) (end_of f)

  -- It was sent, as its mark tells.
  pub record IsSentFor (p : Option Point) (begun number : ℕ) (ran : Result ⊤ Failure) (after : Journal) (z : Command) : Type 0 where
    pub m : Mark
    pub sent : Sent
    pub text_of : List Mark → Text
    pub amid : IsAmid disk ambient plugin sink source (asked_setting at request before x text_of) from new z after (taken ++ m ∷ [])
    pub tells : TellsSo (IsKnown (around disk ambient plugin from.outside (sink from.sink) source) before) x.number text_of (Some sent) (taken ++ m ∷ [])
    pub so : GoesOnBehind p begun number after z sent (taken ++ m ∷ []) ran

  -- or the request was cut short
  abbrev pub FetchEnds : Option Point → ℕ → ℕ → Journal → Command → Result (Result ⊤ Failure) Ending → Type 0
  FetchEnds p begun number after z (Ok ran) = IsSentFor p begun number ran after z
  FetchEnds p begun number after z (Err e) = Executes disk ambient plugin sink source at request before x from new (Err e) after
