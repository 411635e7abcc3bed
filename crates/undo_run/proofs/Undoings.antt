-- The recoveries of a stopped command, as calls that are made one after another.
use Rattle.std.proofs.Common.{◌≡◌, true, List, [], ◌∷◌, ◌++◌, length, Some}
use Rattle.grid_outside.specs.Ambient.{AmbientState}
use Rattle.grid_outside.specs.Disk.{DiskState}
use Rattle.grid_outside.specs.Files.{StoreState}
use Rattle.grid_outside.specs.Sink.{SinkState}
use Rattle.grid_outside.specs.Source.{SourceState}
use Rattle.grid_model.specs.Rows.{Cat}
use Rattle.grid_model.specs.Meanings.{mapped}
use Rattle.grid_model.specs.Doing.{back}
use Rattle.grid_model.specs.Reopening.{of_state, reopened}
use Rattle.grid_model.specs.declared.calls.Call.{Call}
use Rattle.grid_model.specs.declared.deltas.Pending.{Pending}
use Rattle.grid_model.specs.declared.marks.Mark.{Mark}
use Rattle.grid_model.specs.declared.marks.Mark.TheVariants.{Stop}
use Rattle.grid_journal.specs.Journal.{Journal}
use Rattle.grid_headline.specs.Numbers.{KeepsNumbers}
use Rattle.grid_headline.specs.Stops.{AreFirst, GoesOnUndoing}
use Rattle.count_laws.specs.GivenNumbers.{GivesFew}
use Rattle.chain_run.specs.Places.{Place, course_at}
use Rattle.run_laws.specs.Passes.{Seen}
use Rattle.run_laws.specs.Undone.{Undone}
use Rattle.service_run.specs.Commands.{place_by}
use Rattle.service_run.specs.Steps.{lines_of}
use Rattle.service_run.specs.declared.command.Command.{Command}
use Rattle.call_laws.specs.Amid.{IsAmid, IsSetting, Setting}
use Rattle.undo_run.specs.Undoing.{IsOnTheWay, OneOfUndoing, stopped_command}

-- What main has: a catalogue in which the command is pending so that its recoveries go on behind these marks of theirs.
pub record IsOnMain (found : Cat) (p : Pending) (c : Cat) (told : List Mark) : Type 0 where
  pub now : Pending
  pub pending : c.pending ≡ Some now
  pub undoing : (report : List Mark) → AreFirst told report → GoesOnUndoing found report p c now
  pub told_kept : AreFirst (p.marks ++ Stop ∷ told) (now.marks ++ Stop ∷ [])
  pub on_the_way : IsOnTheWay found c
  pub run : c.numbers.run ≡ found.numbers.run
  pub rules : c.rules ≡ found.rules
  pub stores : c.stores ≡ found.stores
  pub keeps : KeepsNumbers found c
  pub few : (d : List Mark) → p.marks ++ Stop ∷ d ≡ now.marks ++ Stop ∷ [] → GivesFew found c (length d)

-- recoveries end as what opening the catalogue does
abbrev pub undoings : (found : Cat) → Pending → Setting (Undone found)
undoings found p = record {
  found = found;
  start = stopped_command p;
  text_of = lines_of p.number;
  OnMain = IsOnMain found p;
  OnWay = IsOnTheWay found;
  marks_of = λ u. u.report;
  OneOf = OneOfUndoing found p;
}

-- recoveries that are left lead from this place to what opening what was found does behind these marks
abbrev pub GoesTo : Cat → List Mark → List Call → Place → Type 0
GoesTo found taken left q = (later : List Mark) → reopened found (taken ++ later) ≡ mapped of_state (back q.user left (course_at q later 0 true))

module _ {D A P K : Type 0} (disk : D → DiskState) (ambient : A → AmbientState) (plugin : P → StoreState) (sink : K → SinkState) (source : SourceState)
    (from : Seen D A P K) (found : Cat) (p : Pending) where
  -- What the recoveries did so far that took these marks, and what is still to be done.
  pub record AreAmid (at : Seen D A P K) (left : List Call) (y : Command) (rows : Journal) (taken : List Mark) : Type 0 where
    pub setting : IsSetting (undoings found p)
    pub amid : IsAmid disk ambient plugin sink source (undoings found p) from at y rows taken
    pub goes : GoesTo found taken left (place_by rows.cat y)
