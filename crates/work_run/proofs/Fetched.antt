-- A request whose file was sent, or that was cut short in the sending.
use Rattle.std.proofs.Common.{◌≡◌, ℕ, ◌≤◌, Bool, List, [], ◌∷◌, ◌++◌, Option, Some, length, Result, Ok, Err, refl, sym, ap, ◌∙◌}
use Rattle.std.specs.Prelude.{⊤}
use Rattle.grid_outside.specs.Ambient.{AmbientState}
use Rattle.grid_outside.specs.Disk.{DiskState}
use Rattle.grid_outside.specs.Files.{StoreState}
use Rattle.grid_outside.specs.Sink.{SinkState}
use Rattle.grid_outside.specs.Source.{SourceState}
use Rattle.grid_outside.specs.declared.outside.Wear.TheVariants as wear
use Rattle.grid_model.specs.DataLines.{data_lines}
use Rattle.grid_model.specs.Names.{Path, Text}
use Rattle.grid_model.specs.Deeds.{is_stop}
use Rattle.grid_model.specs.Meanings.{gives}
use Rattle.grid_model.specs.Operations.Table.{get as fetch}
use Rattle.grid_model.specs.Points.{Point}
use Rattle.grid_model.specs.ReplyTexts.{SendsBytes}
use Rattle.grid_model.specs.Rows.{Cat}
use Rattle.grid_model.specs.RowGrids.{grid_of}
use Rattle.grid_model.specs.Sessions.{State}
use Rattle.grid_model.specs.Working.{Sent, after_work}
use Rattle.grid_model.specs.Runs.{Request, does}
use Rattle.grid_model.specs.declared.marks.Mark.{Mark}
use Rattle.grid_model.specs.declared.plans.OldFile.{OldFile}
use Rattle.grid_model.specs.declared.refusal.Failure.{Failure}
use Rattle.grid_journal.specs.Journal.{Journal}
use Rattle.grid_headline.specs.Files.{IsKnown}
use Rattle.chain_core.specs.Answers.{failure_in}
use Rattle.chain_run.specs.Places.{course_at}
use Rattle.plan_object.specs.Sending.{Sends}
use Rattle.point_laws.specs.Works.{AfterWorkEnds, AfterWorkSends, DoneEnds, WorksEndByRows, WorksTakeInOrder, operation}
use Rattle.run_laws.specs.Passes.{CallsPass, Seen}
use Rattle.service_run.specs.Commands.{place_by}
use Rattle.service_run.specs.SentFiles.{SendEnds, SendsFile, failed_by}
use Rattle.service_run.specs.Steps.{lines_of}
use Rattle.service_run.specs.declared.command.Command.{Command}
use Rattle.service_run.specs.declared.ending.Ending.{Ending}
use Rattle.service_run.specs.declared.ending.Ending.TheVariants as ending
use Rattle.call_laws.specs.Amid.{IsAmid, world}
use Rattle.rule_run.specs.Asked.{IsAsked, asked_setting, text_with}
use Rattle.rule_run.specs.Executing.{Executes, HasRunOut}
use Rattle.rule_run.proofs.Handling.{cut_executes_with, sent_cut}
use Rattle.rule_run.proofs.Sending.{sent_amid, sent_caused_on, sent_known, sent_short, sent_told_on}
use Rattle.work_run.specs.Behind.{IsBehind, from_work}
use Rattle.work_run.specs.Fetched.{GoesOnBehind, IsSentFor}
use Rattle.work_run.specs.Telling.{tells_data}
use Rattle.work_run.specs.Works.{DoesSo}
use Rattle.work_run.proofs.Cut.{marks_are}
use Rattle.work_run.proofs.Ends.{does_marks}
use Rattle.work_run.proofs.Fetching.{came_next, course_behind, its_sent, sent_failed, sent_well, worked_with}

module _ {D A P K : Type 0} (disk : D → DiskState) (ambient : A → AmbientState) (plugin : P → StoreState) (sink : K → SinkState) (source : SourceState)
    (at : State) (request : Request) (before : Cat) (x : Command) (asked : IsAsked at request before x) (from : Seen D A P K)
    (user : Text) (path : Path) (asking : Option Text) (p : Option Point) (b : ℕ) (mid : Seen D A P K) (y : Command) (rows : Journal) (taken : List Mark)
    (amid : IsAmid disk ambient plugin sink source (asked_setting at request before x (lines_of x.number)) from mid y rows taken) (untold : y.untold ≡ [])
    (main_last : (disk mid.outside.main).last ≤ mid.outside.moments)
    (behind : IsBehind at request taken (place_by rows.cat y) b (from_work at p user (operation (fetch path asking)))) (file : OldFile)
    (sends : Sends rows.cat user path asking file) (new : Seen D A P K) (z : Command) where
  abbrev known : ℕ → Type 0
  known = IsKnown (world disk ambient plugin sink source from) before

  abbrev Steps : Result (Result ⊤ Failure) Ending → Type 0
  Steps result = SendsFile (world disk ambient plugin sink source mid) (world disk ambient plugin sink source new) rows.cat file y z result

  taken_are : y.marks ≡ taken
  taken_are = marks_are disk ambient plugin sink source at request before x asked from (lines_of x.number) mid y rows taken amid

  count_is : length y.marks ≡ length taken
  count_is = ap (λ (ms : List Mark). length ms) taken_are

  -- the bytes by what was known
  bytes_known : (count : ℕ) (result : Result (Result ⊤ Failure) Ending) (step : Steps result) (failed sink_failed : Type 0)
      → CallsPass disk plugin sink failed sink_failed mid new
      → SendsBytes known (record { size = file.size; digest = file.digest; before = count }) step.its_mark step.bytes
  bytes_known count result step failed sink_failed passes =
      sent_known disk ambient plugin sink source at request before x asked from mid y rows taken amid untold main_last new file z result step failed
      sink_failed passes count

  -- ---- it was sent

  module _ (ran : Result ⊤ Failure) (passes : CallsPass disk plugin sink ⊥ ⊥ mid new) (step : Steps (Ok ran)) where
    abbrev m : Mark
    m = step.its_mark

    abbrev its : Sent
    its = its_sent at request user path asking p taken (place_by rows.cat y) b behind rows.cat refl file sends

    same_place : (later : List Mark) (stopped : Bool) → is_stop m ≡ stopped
        → course_behind at request user path asking p taken (place_by rows.cat y) b behind rows.cat refl file sends m later
        ≡ course_at (place_by rows.cat z) later b stopped
    same_place later stopped is i = record {
      grid = grid_of rows.cat;
      marks = later;
      taken = sym (ap (λ (c : Command). c.marks) step.ends.command) i;
      begun = b;
      passed = sym (ap (λ (c : Command). c.passed) step.ends.command) i;
      stopped = is i;
    }

    so_by : (r : Result ⊤ Failure) → failure_in r ≡ failed_by file m
        → GoesOnBehind disk ambient plugin sink source at request before x from new taken p b file.number rows z its (taken ++ m ∷ []) r
    so_by (Ok done) is =
        sent_well at request user path asking p taken (place_by rows.cat y) b behind rows.cat refl file sends m step.its_mark_fits (sym is)
        (place_by rows.cat z) same_place
    so_by (Err f) is =
        sent_failed at request user path asking p taken (place_by rows.cat y) b behind rows.cat refl file sends m step.its_mark_fits f (sym is)
        (place_by rows.cat z) same_place

    pub fetched : IsSentFor disk ambient plugin sink source at request before x from new taken p b file.number ran rows z
    fetched = record {
      m = m;
      sent = its;
      text_of = text_with x.number (length taken) (data_lines x.number step.bytes);
      amid = sent_amid disk ambient plugin sink source at request before x asked from mid y rows taken amid untold main_last new file z ran step passes;
      tells = tells_data its taken m [] step.bytes refl refl (sym count_is) (bytes_known (length y.marks) (Ok ran) step ⊥ ⊥ passes)
          (ap (λ (k : ℕ). text_with x.number k (data_lines x.number step.bytes)) (sym count_is));
      so = so_by ran step.ends.failure;
    }

  -- ---- it was cut short

  module _ (does_so : DoesSo at request user (operation (fetch path asking))) (ends : WorksEndByRows) (takes : WorksTakeInOrder) (works : AfterWorkEnds)
      (sends_so : AfterWorkSends) (e : Ending) (failed sink_failed : Type 0) (passes : CallsPass disk plugin sink failed sink_failed mid new)
      (step : Steps (Err e)) where
    abbrev its_mark : Mark
    its_mark = step.its_mark

    our_end : DoneEnds (λ later. after_work at p
        (worked_with at request user path asking p taken (place_by rows.cat y) b behind rows.cat refl file sends its_mark later))
    our_end = works at p (worked_with at request user path asking p taken (place_by rows.cat y) b behind rows.cat refl file sends its_mark [])

    does_there : does at request (taken ++ (its_mark ∷ our_end.rest)) ≡ gives our_end.d
    does_there =
        came_next at request user path asking p taken (place_by rows.cat y) b behind rows.cat refl file sends its_mark step.its_mark_fits our_end.rest
        ∙ our_end.gives_so

    abbrev sent_here : Sent
    sent_here = record { size = file.size; digest = file.digest; before = length taken }

    sent_is : our_end.d.sent ≡ Some sent_here
    sent_is =
        sends_so at p (worked_with at request user path asking p taken (place_by rows.cat y) b behind rows.cat refl file sends its_mark our_end.rest) our_end.d
        our_end.gives_so
        ∙ ap (λ (k : ℕ). Some (record { size = file.size; digest = file.digest; before = k })) count_is

    out_of : (f : Ending) (its : SendEnds (world disk ambient plugin sink source mid) (world disk ambient plugin sink source new) rows.cat file y z its_mark
        step.bytes (Err f)) → HasRunOut disk ambient plugin sink source at request before x from new f
    out_of ending.Disk its = tt
    out_of ending.Sink its = tt
    out_of ending.Memory its = tt
    out_of (ending.Worn wear.Vaults place) its = absurd its
    out_of (ending.Worn wear.Log place) its = absurd its
    out_of (ending.Worn wear.Runs place) its = absurd its

    pub fetch_cut : (after : Journal) → Executes disk ambient plugin sink source at request before x from new (Err e) after
    fetch_cut after =
        cut_executes_with disk ambient plugin sink source at request before x asked
        (text_with x.number (length taken) (data_lines x.number step.bytes)) from new taken
        (sent_short disk ambient plugin sink source at request before x asked from mid y rows taken amid untold main_last new file z (Err e) step failed
        sink_failed passes) (its_mark ∷ our_end.rest)
        (sent_told_on disk ambient plugin sink source at request before x asked from mid y rows taken amid untold main_last new file z (Err e) step failed
        sink_failed passes our_end.rest our_end.ran)
        (sent_caused_on disk ambient plugin sink source at request before x asked from mid y rows taken amid untold main_last new file z (Err e) step failed
        sink_failed passes our_end.rest our_end.ran)
        (sent_cut x.number at request known taken its_mark our_end.rest step.bytes
        (does_marks at request user (operation (fetch path asking)) does_so tt ends takes (taken ++ (its_mark ∷ our_end.rest)) our_end.d does_there our_end.all)
        sent_here sent_is refl (bytes_known (length taken) (Err e) step failed sink_failed passes) taken
        (record { rest = its_mark ∷ our_end.rest; are = refl }))
        e (out_of e step.ends) after
