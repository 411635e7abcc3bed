-- A request whose call was run, from what the run came to.
use Rattle.std.proofs.Common.{◌≡◌, List, [], ◌++◌, length, Err, refl, sym, ap, ◌∙◌}
use Rattle.std.proofs.lemmas.List.{append-nil}
use Rattle.grid_outside.specs.Ambient.{AmbientState}
use Rattle.grid_outside.specs.Disk.{DiskState}
use Rattle.grid_outside.specs.Files.{StoreState}
use Rattle.grid_outside.specs.Sink.{SinkState}
use Rattle.grid_outside.specs.Source.{SourceState}
use Rattle.grid_outside.specs.declared.outside.Wear.TheVariants as wear
use Rattle.grid_model.specs.Rows.{Cat}
use Rattle.grid_model.specs.RuleText.{Rule}
use Rattle.grid_model.specs.Meanings.{Meaning, gives}
use Rattle.grid_model.specs.Values.{Env, Value}
use Rattle.grid_model.specs.Chains.{Named}
use Rattle.grid_model.specs.Sessions.{State}
use Rattle.grid_model.specs.Runs.{Request}
use Rattle.grid_model.specs.declared.calls.Call.{Call}
use Rattle.grid_model.specs.declared.marks.Mark.{Mark}
use Rattle.grid_model.specs.declared.replies.End.{End}
use Rattle.grid_journal.specs.Journal.{Journal}
use Rattle.grid_headline.specs.Files.{IsKnown}
use Rattle.grid_headline.specs.Worlds.{World}
use Rattle.run_laws.specs.Passes.{Seen}
use Rattle.chain_core.specs.Rest.{course, outcome_of}
use Rattle.chain_core.specs.declared.actions.Outcome as told
use Rattle.chain_core.specs.declared.frames.Frames.{Frames}
use Rattle.chain_run.specs.Places.{course_from}
use Rattle.chain_laws.specs.ByRows.{CallsEndByRows}
use Rattle.chain_laws.specs.Ending.{leaving}
use Rattle.chain_laws.specs.Stopped.{StopsHalt}
use Rattle.chain_laws.specs.Taken.{TakesInOrder}
use Rattle.service_run.specs.Commands.{place_by}
use Rattle.service_run.specs.Steps.{lines_of}
use Rattle.service_run.specs.declared.command.Command.{Command}
use Rattle.service_run.specs.declared.ending.Ending.{Ending}
use Rattle.service_run.specs.declared.ending.Ending.TheVariants as ending
use Rattle.call_laws.specs.Amid.{world}
use Rattle.rule_run.specs.Asked.{IsAsked}
use Rattle.rule_run.specs.Executing.{DoesCall, Executes, HasRunOut, end_by}
use Rattle.rule_run.specs.Finishing.{reply_of}
use Rattle.rule_run.specs.Running.{HasRunDry, RunEnds, RunsOn}
use Rattle.rule_run.proofs.Handling.{DoesAll, IsWholeEnd, cut_executes, plain_cut, plain_end}
use Rattle.rule_run.proofs.Outcomes.{end_is, ends_as, ends_told, reply_is, taken_are, whole, whole_end}

module _ {D A P K : Type 0} (disk : D → DiskState) (ambient : A → AmbientState) (plugin : P → StoreState) (sink : K → SinkState) (source : SourceState)
    (at : State) (request : Request) (before : Cat) (x : Command) (asked : IsAsked at request before x) (from : Seen D A P K) where
  module _ (rules : List Rule) (env : Env) (call : Call) (vs : List Value) (does_call : DoesCall at request rules env call vs) (halts : StopsHalt)
      (takes : TakesInOrder) (ends : CallsEndByRows) where
    abbrev at_old : World P
    at_old = world disk ambient plugin sink source from

    abbrev all : List Mark → Meaning Named
    all = whole at request before x asked rules env call vs does_call

    out_of : (new : Seen D A P K) (e : Ending) → HasRunDry disk ambient plugin sink source at request before x (lines_of x.number) from new all [] e
        → HasRunOut disk ambient plugin sink source at request before x from new e
    out_of new ending.Disk out = tt
    out_of new ending.Sink out = tt
    out_of new ending.Memory out = tt
    out_of new (ending.Worn wear.Vaults place) out = out
    out_of new (ending.Worn wear.Log place) out = out
    out_of new (ending.Worn wear.Runs place) out = out

    -- they were cut short
    pub cut_so : (new : Seen D A P K) (e : Ending) (m : Frames) (y : Command) (after : Journal)
        → RunEnds disk ambient plugin sink source at request before x (lines_of x.number) from new all [] m (Err e) y after
        → length new.outside.stores.items ≡ length from.outside.stores.items
        → Executes disk ambient plugin sink source at request before x from new (Err e) after
    cut_so new e m y after short count =
        let gives_end = ap (λ (ms : List Mark). all (short.0.more ++ ms)) (sym (append-nil short.0.rest)) ∙ short.0.gives_so [] in
        let w = whole_end at request before x asked rules env call vs does_call halts takes ends (short.0.more ++ short.0.rest) (leaving [] short.0.end)
        gives_end refl in
        cut_executes disk ambient plugin sink source at request before x asked (lines_of x.number) from new short.0.more short.0.cut count short.0.rest
        short.0.ran
        (plain_cut x.number at request (IsKnown at_old before) short.0.more (short.0.more ++ short.0.rest) w refl
        (record { rest = short.0.rest; are = refl })) e (out_of new e short.1) after

    -- they were run to their end
    module _ (mid : Seen D A P K) (m : Frames) (outcome : told.Outcome) (y : Command) (rows : Journal)
        (runs : RunsOn disk ambient plugin sink source at request before x (lines_of x.number) from mid all [] m outcome y rows) where
      abbrev named : Named
      named = record { state = course m (course_from (place_by rows.cat y) []); outcome = outcome_of outcome }

      pub gives_named : all runs.more ≡ gives named
      gives_named = ap all (sym (append-nil runs.more)) ∙ runs.gives_so []

      abbrev pub its_done : DoesAll at request runs.more
      its_done = whole_end at request before x asked rules env call vs does_call halts takes ends runs.more named gives_named refl

      abbrev pub its_end : IsWholeEnd x.number (lines_of x.number) at request (IsKnown at_old before) runs.more
      its_end = plain_end x.number at request (IsKnown at_old before) runs.more its_done refl

      pub its_reply : (e : End) → e ≡ end_by outcome → its_end.d.reply ≡ reply_of runs.more y.passed [] e
      its_reply e is =
          reply_is at named.state (ends_as named.outcome) e
          (end_is at request before x asked rules env call vs does_call halts takes ends runs.more named gives_named refl ∙ ends_told outcome ∙ sym is)
          ∙ ap (λ (ms : List Mark). reply_of ms y.passed [] e)
          (taken_are at request before x asked rules env call vs does_call halts takes ends runs.more named gives_named refl)
