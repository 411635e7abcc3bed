-- A get of a request that was noted before its file is sent, or that was cut short there.
use Rattle.std.proofs.Common.{◌≡◌, ◌≤◌, List, [], Result, Ok, Err, ap, ◌∙◌, sym}
use Rattle.std.specs.Prelude.{⊤, IfOk, IsErrOf, OnOk}
use Rattle.grid_outside.specs.Ambient.{AmbientState}
use Rattle.grid_outside.specs.Disk.{DiskState}
use Rattle.grid_outside.specs.Files.{StoreState}
use Rattle.grid_outside.specs.Sink.{SinkState}
use Rattle.grid_outside.specs.Source.{SourceState}
use Rattle.grid_model.specs.Rows.{Cat}
use Rattle.grid_model.specs.Doing.{Course, Did}
use Rattle.grid_model.specs.Meanings.{Meaning, waits}
use Rattle.grid_model.specs.Sessions.{State}
use Rattle.grid_model.specs.Runs.{Request, does}
use Rattle.grid_model.specs.declared.calls.Call.{Call}
use Rattle.grid_model.specs.declared.marks.Mark.{Mark}
use Rattle.grid_journal.specs.Journal.{Journal}
use Rattle.grid_deed.specs.Held.{IsHeld}
use Rattle.deed_run.specs.Notes.{IsNextNoted}
use Rattle.run_laws.specs.Passes.{CallsPass, Seen}
use Rattle.service_run.specs.Commands.{place_by, waiting_at}
use Rattle.service_run.specs.NotedCalls.{NotesCall}
use Rattle.service_run.specs.Steps.{lines_of}
use Rattle.service_run.specs.declared.command.Command.{Command}
use Rattle.service_run.specs.declared.ending.Ending.{Ending}
use Rattle.service_run.specs.declared.ending.Ending.TheVariants as ending
use Rattle.call_laws.specs.Amid.{IsAmid, MayCall, world}
use Rattle.call_laws.proofs.Joined.{passes_well}
use Rattle.call_laws.proofs.NotedAmid.{noted_amid}
use Rattle.call_laws.proofs.Rounds.{cut_next}
use Rattle.rule_run.specs.Asked.{IsAsked, asked_setting}
use Rattle.rule_run.proofs.Noting.{may_call}
use Rattle.rule_run.proofs.Settings.{is_setting}
use Rattle.work_run.specs.Fetched.{NoteEnds}
use Rattle.work_run.proofs.Cut.{worn_out}

-- ---- what is left for the calls behind it

module _ (main : DiskState) (rows : Journal) (x : Command) (call : Call) (y : Command) (after : Journal) where
  pub held_as : (result : Result ⊤ Ending) → OnOk result (IsNextNoted main rows x call y after) → IfOk result (λ done. (kept : Cat) × IsHeld kept main after)
  held_as (Ok done) next = (next.kept, next.held)
  held_as (Err e) next = tt

  pub cat_as : (result : Result ⊤ Ending) → OnOk result (IsNextNoted main rows x call y after)
      → IfOk result (λ done. after.cat ≡ record rows.cat { pending = after.cat.pending })
  cat_as (Ok done) next = next.rows ∙ ap (λ p. record rows.cat { pending = p }) (sym (ap (λ (c : Cat). c.pending) next.rows))
  cat_as (Err e) next = tt

  pub command_as : (result : Result ⊤ Ending) → OnOk result (IsNextNoted main rows x call y after) → IfOk result (λ done. y ≡ record x { untold = [] })
  command_as (Ok done) next = next.command
  command_as (Err e) next = tt

-- ---- the request

module _ {D A P K : Type 0} (disk : D → DiskState) (ambient : A → AmbientState) (plugin : P → StoreState) (sink : K → SinkState) (source : SourceState)
    (at : State) (request : Request) (before : Cat) (x : Command) (asked : IsAsked at request before x) (from : Seen D A P K)
    (does_so : Course → Meaning Did) (call : Call) (mid : Seen D A P K) (y : Command) (rows : Journal) (taken : List Mark)
    (amid : IsAmid disk ambient plugin sink source (asked_setting at request before x (lines_of x.number)) from mid y rows taken)
    (main_last : (disk mid.outside.main).last ≤ mid.outside.moments)
    (waits_so : does at request taken ≡ waits (waiting_at (place_by rows.cat y) call)) (new : Seen D A P K) (z : Command) (after : Journal) where
  may : MayCall (asked_setting at request before x (lines_of x.number)) rows.cat y taken does_so call []
  may = may_call at request before x asked (lines_of x.number) rows.cat y taken call [] amid.command amid.beside does_so (λ its. waits_so)

  pub noted_so : (result : Result ⊤ Ending) → CallsPass disk plugin sink (IsErrOf result ending.Disk) (IsErrOf result ending.Sink) mid new
      → NotesCall (world disk ambient plugin sink source mid) (world disk ambient plugin sink source new) amid.holds.cat rows y call [] z after does_so result
      → NoteEnds disk ambient plugin sink source at request before x from new taken after z result
  noted_so (Ok done) passes notes =
      let next = noted_amid disk ambient plugin sink source (asked_setting at request before x (lines_of x.number)) from
      (is_setting at request before x asked (lines_of x.number)) mid new call [] does_so y rows taken amid may main_last z after
      (passes_well disk plugin sink _ _ ⊥ ⊥ mid new (λ f. cc f) (λ f. f) (λ f. f) passes) notes in
      next.0
  noted_so (Err e) passes notes = (
    cut_next disk ambient plugin sink source (asked_setting at request before x (lines_of x.number)) from
        (is_setting at request before x asked (lines_of x.number)) mid new call [] does_so y rows taken amid may main_last z after ending.Memory _ _ passes
        notes.step,
    worn_out disk ambient plugin sink source at request before x asked from mid y rows taken amid new z after call e notes.ends,
  )
