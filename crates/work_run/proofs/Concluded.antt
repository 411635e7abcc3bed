-- A request whose calls were made, once its end was tried.
use Rattle.std.proofs.Common.{◌≡◌, ◌≤◌, List, ◌++◌, Option, Result, refl, sym, ap, ◌∙◌, subst}
use Rattle.std.specs.Prelude.{⊤}
use Rattle.grid_outside.specs.Ambient.{AmbientState}
use Rattle.grid_outside.specs.Disk.{DiskState}
use Rattle.grid_outside.specs.Files.{StoreState}
use Rattle.grid_outside.specs.Sink.{SinkState}
use Rattle.grid_outside.specs.Source.{SourceState}
use Rattle.grid_model.specs.Names.{Text}
use Rattle.grid_model.specs.Rows.{Cat}
use Rattle.grid_model.specs.Sessions.{State}
use Rattle.grid_model.specs.Runs.{Request}
use Rattle.grid_model.specs.Working.{Done, Sent}
use Rattle.grid_model.specs.declared.marks.Mark.{Mark}
use Rattle.grid_model.specs.declared.replies.End.{End}
use Rattle.grid_model.specs.declared.replies.Reply.{Reply}
use Rattle.grid_journal.specs.Journal.{Journal}
use Rattle.grid_deed.specs.Held.{IsHeld}
use Rattle.grid_deed.specs.Safe.{KeepBothWhole}
use Rattle.grid_headline.specs.Ends.{WasDone}
use Rattle.grid_headline.specs.Files.{IsKnown}
use Rattle.point_laws.specs.Works.{IsAskedSo, Work, WorksEndByRows}
use Rattle.run_laws.specs.Passes.{CallsPass, Seen}
use Rattle.run_laws.specs.Steps.{HadNumbersFor}
use Rattle.service_run.specs.Commands.{place_by}
use Rattle.service_run.specs.declared.command.Command.{Command}
use Rattle.service_run.specs.declared.ending.Ending.{Ending}
use Rattle.call_laws.specs.Amid.{IsAmid, world}
use Rattle.rule_run.specs.Asked.{IsAsked, asked_setting}
use Rattle.rule_run.specs.Executing.{Executes}
use Rattle.rule_run.specs.Finishing.{Finishes, HasNothing, reply_of, rest_text}
use Rattle.rule_run.proofs.Ended.{ended_so}
use Rattle.rule_run.proofs.Handling.{IsWholeEnd, StaysSo}
use Rattle.work_run.specs.Behind.{HasNumberIfDone, IsEnded, LeavesNothing}
use Rattle.work_run.specs.Telling.{TellsSo}
use Rattle.work_run.specs.Works.{DoesSo}
use Rattle.work_run.proofs.Ends.{does_all, its_done, its_reply, whole_as}

module _ {D A P K : Type 0} (disk : D → DiskState) (ambient : A → AmbientState) (plugin : P → StoreState) (sink : K → SinkState) (source : SourceState)
    (at : State) (request : Request) (before : Cat) (x : Command) (asked : IsAsked at request before x) (from : Seen D A P K)
    (user : Text) (w : Work) (does_so : DoesSo at request user w) (asked_so : IsAskedSo w) (ends : WorksEndByRows) (text_of : List Mark → Text)
    (sent : Option Sent) (mid : Seen D A P K) (y : Command) (rows : Journal) (taken : List Mark)
    (amid : IsAmid disk ambient plugin sink source (asked_setting at request before x text_of) from mid y rows taken)
    (tells : TellsSo (IsKnown (world disk ambient plugin sink source from) before) x.number text_of sent taken)
    (main_last : (disk mid.outside.main).last ≤ mid.outside.moments)
    (new : Seen D A P K) (r : Result ⊤ Ending) (after : Journal) (failed sink_failed : Type 0) (passes : CallsPass disk plugin sink failed sink_failed mid new)
    (same : new.outside.ambient ≡ mid.outside.ambient) (shown : List (List Text)) (e : End)
    (finishes : (kept : Cat) → IsHeld kept (disk mid.outside.main) rows
    → Finishes (disk mid.outside.main) (disk new.outside.main) (sink mid.sink) (sink new.sink) kept mid.outside.moments y.number rows y
    (y.untold ++ rest_text y.number y.passed shown e) r after)
    (wholes : (kept : Cat) → IsHeld kept (disk mid.outside.main) rows
    → KeepBothWhole plugin mid.outside.moments kept rows.cat (disk mid.outside.main) (disk new.outside.main) mid.outside.stores.items
    new.outside.stores.items)
    (idle : HasNothing rows y → new.outside.main ≡ mid.outside.main) where
  marks_are : y.marks ≡ taken
  marks_are = ap (λ (z : Command). z.marks) amid.command ∙ ap (λ (z : Command). z.marks ++ taken) asked.begun

  module _ (its : IsEnded at request taken (place_by rows.cat y) shown sent e)
      (nothing : LeavesNothing at request before rows y (disk from.outside.main) (disk mid.outside.main)) (number : HasNumberIfDone request before e) where
    abbrev done_so : Done
    done_so = its_done at request user w does_so asked_so ends taken (place_by rows.cat y) shown sent e marks_are its

    still : StaysSo at request before taken done_so (disk from.outside.main) (disk new.outside.main)
    still calls none grid told =
        let left = nothing calls (marks_are ∙ none) grid in
        ap (λ (m : D). (disk m).holds) (idle left.0) ∙ left.1 told

    whole : (v : IsWholeEnd x.number text_of at request (IsKnown (world disk ambient plugin sink source from) before) taken) × (v.d ≡ done_so)
    whole =
        whole_as x.number at request (IsKnown (world disk ambient plugin sink source from) before) text_of sent taken
        (does_all at request user w does_so asked_so ends taken (place_by rows.cat y) shown sent e marks_are its) refl tells

    reply_so : whole.0.d.reply ≡ reply_of taken y.passed shown e
    reply_so =
        ap (λ (d : Done). d.reply) whole.1
        ∙ its_reply at request user w does_so asked_so ends taken (place_by rows.cat y) shown sent e marks_are its

    had : HadNumbersFor before request whole.0.d
    had session order is makes some was = number (subst WasDone (ap (λ (p : Reply). p.end) reply_so) was) session order is makes

    pub concluded : Executes disk ambient plugin sink source at request before x from new r after
    concluded =
        ended_so disk ambient plugin sink source at request before x asked text_of from mid y rows taken amid main_last shown e new r after failed sink_failed
        passes same finishes wholes whole.0 reply_so (ap (λ (d : Done). d.state) whole.1) had
        (subst (λ (d : Done). StaysSo at request before taken d (disk from.outside.main) (disk new.outside.main)) (sym whole.1) still)
