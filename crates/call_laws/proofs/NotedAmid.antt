-- A call that is noted, and whose deed has not begun: all marks that were taken are told.
use Rattle.std.proofs.Common.{◌≡◌, ◌≤◌, List, [], ◌++◌, length, Ok, Err, IsTrue, refl, sym, ap, ◌∙◌, subst}
use Rattle.std.proofs.lemmas.List.{append-nil}
use Rattle.grid_outside.specs.Ambient.{AmbientState}
use Rattle.grid_outside.specs.Disk.{DiskState}
use Rattle.grid_outside.specs.Files.{StoreState}
use Rattle.grid_outside.specs.Sink.{SinkState}
use Rattle.grid_outside.specs.Source.{SourceState}
use Rattle.grid_model.specs.Meanings.{Meaning}
use Rattle.grid_model.specs.Doing.{Course, Did}
use Rattle.grid_model.specs.declared.calls.Call.{Call}
use Rattle.grid_model.specs.declared.marks.Mark.{Mark}
use Rattle.grid_journal.specs.Journal.{Journal}
use Rattle.grid_headline.specs.Worlds.{World}
use Rattle.run_laws.specs.Passes.{CallsPass, Seen}
use Rattle.service_run.specs.declared.command.Command.{Command}
use Rattle.service_run.specs.declared.ending.Ending.TheVariants as ending
use Rattle.service_run.specs.Commands.{KeepsBeside}
use Rattle.service_run.specs.NotedCalls.{NotesCall}
use Rattle.service_run.specs.Steps.{WasNoted}
use Rattle.call_laws.specs.Amid.{HoldsSo, IsAmid, IsSetting, MayCall, Setting, world}
use Rattle.call_laws.proofs.Joined.{passes_then}
use Rattle.call_laws.proofs.Rounds.{number_is, taken_still}
use Rattle.call_laws.proofs.Rows.{beside_marks}
use Rattle.call_laws.proofs.Safely.{main_told, plain_taken, safe_next, sink_told, told_all, whole_kept}

module _ {D A P K : Type 0} (disk : D → DiskState) (ambient : A → AmbientState) (plugin : P → StoreState) (sink : K → SinkState) (source : SourceState)
    {F : Type 0} (s : Setting F) (from : Seen D A P K) (is : IsSetting s) (mid new : Seen D A P K) (c : Call) (undo : List Call)
    (does : Course → Meaning Did) (y : Command) (rows : Journal) (taken : List Mark) (amid : IsAmid disk ambient plugin sink source s from mid y rows taken)
    (may : MayCall s rows.cat y taken does c undo) (main_last : (disk mid.outside.main).last ≤ mid.outside.moments) (z : Command) (after : Journal)
    (passes : CallsPass disk plugin sink ⊥ ⊥ mid new)
    (noted : NotesCall (world disk ambient plugin sink source mid) (world disk ambient plugin sink source new) amid.holds.cat rows y c undo z after does
    (Ok tt)) where
  abbrev at_mid : World P
  at_mid = world disk ambient plugin sink source mid

  abbrev at_new : World P
  at_new = world disk ambient plugin sink source new

  abbrev holds : HoldsSo disk ambient plugin sink source s from mid y.untold rows taken
  holds = amid.holds

  told_main : IsTrue (disk from.outside.main).tells → IsTrue (disk mid.outside.main).tells
  told_main = main_told disk ambient plugin sink source s from is mid new c undo does y rows taken amid may main_last

  told_sink : IsTrue (sink from.sink).tells → IsTrue (sink mid.sink).tells
  told_sink = sink_told disk ambient plugin sink source s from is mid new c undo does y rows taken amid may main_last

  number_now : y.number ≡ s.start.number
  number_now = number_is disk ambient plugin sink source s from is mid new c undo does y rows taken amid may main_last

  abbrev was : WasNoted at_mid at_new holds.cat rows y c undo z after does []
  was = noted.ends.noted

  -- nothing is still to be told
  abbrev holds_noted : HoldsSo disk ambient plugin sink source s from new z.untold after taken
  holds_noted = record {
    told = taken;
    fresh = [];
    taken_are = sym (append-nil taken);
    untold_is = was.untold;
    cat = was.cat;
    on_main = may.on_noted was.cat was.noted was.waits;
    held = was.held;
    numbers = was.numbers;
    plain = plain_taken disk ambient plugin sink source s from mid y.untold rows taken holds;
    shown = λ told. was.sink (told_sink told) ∙ told_all disk ambient plugin sink source s from mid y.untold rows taken holds told;
    settled = λ told settled. was.settled (told_main told);
    sink_settled = λ told settled. was.sink_settled (told_sink told) (holds.sink_settled told settled);
  }

  command_noted : z ≡ record s.start { marks = s.start.marks ++ taken; passed = z.passed; untold = z.untold }
  command_noted = λ i. record {
    run = (ap (λ (x : Command). x.run) noted.ends.command ∙ ap (λ (x : Command). x.run) amid.command) i;
    number = (ap (λ (x : Command). x.number) noted.ends.command ∙ number_now) i;
    user = (ap (λ (x : Command). x.user) noted.ends.command ∙ ap (λ (x : Command). x.user) amid.command) i;
    line = (ap (λ (x : Command). x.line) noted.ends.command ∙ ap (λ (x : Command). x.line) amid.command) i;
    marks = (ap (λ (x : Command). x.marks) noted.ends.command ∙ ap (λ (x : Command). x.marks) amid.command) i;
    passed = z.passed;
    untold = z.untold;
  }

  -- The calls have come as far as they had, and all that they told is told.
  pub noted_amid : (next : IsAmid disk ambient plugin sink source s from new z after taken) × (next.holds.told ≡ taken)
  noted_amid = (
    record {
      command = command_noted;
      beside = subst (λ (ms : List Mark). KeepsBeside s.found after.cat (length ms)) (append-nil taken)
          (beside_marks s.found rows.cat after.cat taken [] amid.beside noted.ends.beside);
      holds = holds_noted;
      marks = taken_still disk ambient plugin sink source s from is mid new c undo does y rows taken amid may main_last ⊥ ⊥ passes noted.step.asked;
      whole_now = λ were told settled t late.
          noted.ends.whole (whole_kept disk ambient plugin sink source s from is mid new c undo does y rows taken amid may main_last were told settled)
          (amid.whole_now were told settled) (told_main told) (holds.settled told settled) t late;
      safe = safe_next disk ambient plugin sink source s from is mid new c undo does y rows taken amid may main_last z after (Err ending.Memory) ⊥ ⊥ passes
          noted.step;
      passes = passes_then disk plugin sink ⊥ ⊥ from mid new amid.passes passes;
    },
    refl,
  )
