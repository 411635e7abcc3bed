-- A call that was made, seen as one that was cut short: nothing of the mark that it took is seen yet.
use Rattle.std.proofs.Common.{◌≤◌, List, [], Result, subst}
use Rattle.std.specs.Prelude.{⊤}
use Rattle.std.proofs.lemmas.List.{append-nil}
use Rattle.grid_outside.specs.Ambient.{AmbientState}
use Rattle.grid_outside.specs.Disk.{DiskState}
use Rattle.grid_outside.specs.Files.{StoreState}
use Rattle.grid_outside.specs.Sink.{SinkState}
use Rattle.grid_outside.specs.Source.{SourceState}
use Rattle.grid_model.specs.Meanings.{Meaning}
use Rattle.grid_model.specs.Doing.{Course, Did}
use Rattle.grid_model.specs.declared.calls.Call.{Call}
use Rattle.grid_model.specs.declared.marks.Mark.{Mark}
use Rattle.grid_model.specs.declared.refusal.Failure.{Failure}
use Rattle.grid_journal.specs.Journal.{Journal}
use Rattle.run_laws.specs.Passes.{CallsPass, Seen}
use Rattle.run_laws.specs.Steps.{Gave}
use Rattle.run_laws.proofs.Causes.{caused-on}
use Rattle.run_laws.proofs.Draws.{gave-then}
use Rattle.service_run.specs.declared.command.Command.{Command}
use Rattle.service_run.specs.declared.ending.Ending.{Ending}
use Rattle.service_run.specs.Steps.{IsStep}
use Rattle.call_laws.specs.Amid.{IsAmid, IsCutShort, IsSetting, MayCall, Setting, world}
use Rattle.call_laws.proofs.Joined.{went_of}
use Rattle.call_laws.proofs.Safely.{part_told, safe_next, sink_told}

module _ {D A P K : Type 0} (disk : D → DiskState) (ambient : A → AmbientState) (plugin : P → StoreState) (sink : K → SinkState) (source : SourceState)
    {F : Type 0} (s : Setting F) (from : Seen D A P K) (is : IsSetting s) (mid new : Seen D A P K) (c : Call) (undo : List Call)
    (does : Course → Meaning Did) (y : Command) (rows : Journal) (taken : List Mark)
    (amid : IsAmid disk ambient plugin sink source s from mid y rows taken) (may : MayCall s rows.cat y taken does c undo)
    (main_last : (disk mid.outside.main).last ≤ mid.outside.moments) where
  pub cut_any : (z : Command) (after : Journal) (result : Result (Result ⊤ Failure) Ending) (failed sink_failed : Type 0)
      → CallsPass disk plugin sink failed sink_failed mid new
      → IsStep (world disk ambient plugin sink source mid) (world disk ambient plugin sink source new) amid.holds.cat rows y c undo z after
      does result
      → IsCutShort disk ambient plugin sink source s from new taken
  cut_any z after result failed sink_failed passes step = record {
    marks = record {
      told_of = amid.marks.told_of;
      caused = caused-on (world disk ambient plugin sink source from) (world disk ambient plugin sink source mid) (world disk ambient plugin sink source new)
          taken (went_of disk plugin sink failed sink_failed ambient source mid new passes) amid.marks.caused;
      gave = λ told. subst (λ (ms : List Mark). Gave ms (ambient from.outside.ambient) (ambient new.outside.ambient)) (append-nil taken)
          (gave-then taken [] (ambient from.outside.ambient) (ambient mid.outside.ambient) (ambient new.outside.ambient) amid.marks.gave step.asked told);
    };
    shown = λ told.
        part_told disk ambient plugin sink source s from is mid new c undo does y rows taken amid may main_last told (sink new.sink).holds
        (step.shown (sink_told disk ambient plugin sink source s from is mid new c undo does y rows taken amid may main_last told));
    safe = safe_next disk ambient plugin sink source s from is mid new c undo does y rows taken amid may main_last z after result failed sink_failed passes
        step;
  }
