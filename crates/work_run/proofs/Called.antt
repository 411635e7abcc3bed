-- An operation of a request that was called: how far the request has come behind it, and what it leaves where it was cut short.
use Rattle.std.proofs.Common.{◌≡◌, ℕ, ◌≤◌, List, [], ◌++◌, Option, None, Result, Ok, Err, sym, ◌∙◌}
use Rattle.std.proofs.Common.{subst}
use Rattle.std.specs.Prelude.{⊤}
use Rattle.std.proofs.lemmas.List.{append_cancel_left}
use Rattle.grid_outside.specs.Ambient.{AmbientState}
use Rattle.grid_outside.specs.Disk.{DiskState}
use Rattle.grid_outside.specs.Files.{StoreState}
use Rattle.grid_outside.specs.Sink.{SinkState}
use Rattle.grid_outside.specs.Source.{SourceState}
use Rattle.grid_model.specs.Names.{Text}
use Rattle.grid_model.specs.Operations.Table.{Operation}
use Rattle.grid_model.specs.Rows.{Cat}
use Rattle.grid_model.specs.RowGrids.{user_name}
use Rattle.grid_model.specs.Doing.{Course}
use Rattle.grid_model.specs.Points.{Point}
use Rattle.grid_model.specs.Sessions.{State}
use Rattle.grid_model.specs.Working.{end_of, running, sent_by}
use Rattle.grid_model.specs.Runs.{Request}
use Rattle.grid_model.specs.declared.marks.Mark.{Mark}
use Rattle.grid_model.specs.declared.refusal.Failure.{Failure}
use Rattle.grid_journal.specs.Journal.{Journal}
use Rattle.deed_run.specs.Puts.{does_op}
use Rattle.point_laws.specs.Works.{WorkEnds, WorksEndByRows, WorksSendBehind, WorksTakeInOrder, operation}
use Rattle.run_laws.specs.Passes.{CallsPass, Seen}
use Rattle.service_run.specs.Commands.{place_by}
use Rattle.service_run.specs.Steps.{IsStep, IsStepDone, lines_of}
use Rattle.service_run.specs.declared.command.Command.{Command}
use Rattle.service_run.specs.declared.ending.Ending.{Ending}
use Rattle.call_laws.specs.Amid.{IsAmid, MayCall, world}
use Rattle.call_laws.proofs.Rounds.{amid_next, cut_next}
use Rattle.rule_run.specs.Asked.{IsAsked, asked_setting}
use Rattle.rule_run.specs.Executing.{Executes}
use Rattle.rule_run.proofs.Noting.{may_call}
use Rattle.rule_run.proofs.Settings.{is_setting}
use Rattle.work_run.specs.Behind.{IsBehind, IsEnded, from_work, from_worked}
use Rattle.work_run.specs.Works.{DoesSo}
use Rattle.work_run.proofs.Cut.{short_executes, worn_out}
use Rattle.work_run.proofs.Worked.{its_words, waits_there, worked_failed, worked_well}

module _ {D A P K : Type 0} (disk : D → DiskState) (ambient : A → AmbientState) (plugin : P → StoreState) (sink : K → SinkState) (source : SourceState)
    (at : State) (request : Request) (before : Cat) (x : Command) (asked : IsAsked at request before x) (from : Seen D A P K)
    (user : Text) (op : Operation) (silent : (s : Course) → sent_by s user op ≡ None) (p : Option Point) (b : ℕ)
    (mid : Seen D A P K) (y : Command) (rows : Journal) (taken : List Mark)
    (amid : IsAmid disk ambient plugin sink source (asked_setting at request before x (lines_of x.number)) from mid y rows taken)
    (behind : IsBehind at request taken (place_by rows.cat y) b (from_work at p user (operation op))) where
  -- ---- it was called

  module _ (main_last : (disk mid.outside.main).last ≤ mid.outside.moments) (name : user_name rows.cat y.user ≡ user) (new : Seen D A P K) (z : Command)
      (after : Journal) where
    may : MayCall (asked_setting at request before x (lines_of x.number)) rows.cat y taken (does_op user op) (running op) []
    may = may_call at request before x asked (lines_of x.number) rows.cat y taken (running op) [] amid.command amid.beside (does_op user op)
        (waits_there at request user op silent p taken (place_by rows.cat y) b behind)

    abbrev pub Steps : Text → Result (Result ⊤ Failure) Ending → Type 0
    Steps u r = IsStep (world disk ambient plugin sink source mid) (world disk ambient plugin sink source new) amid.holds.cat rows y (running op) [] z after
        (does_op u op) r

    as_user : (r : Result (Result ⊤ Failure) Ending) → Steps (user_name rows.cat y.user) r → Steps user r
    as_user r step = subst (λ (u : Text). Steps u r) name step

    -- what there is to do behind it
    abbrev pub GoesOn : Result ⊤ Failure → List Mark → Type 0
    GoesOn (Ok done) marks = IsBehind at request marks (place_by after.cat z) b (from_worked at p (its_words at request user op silent p taken (place_by rows.cat y) b behind))
    GoesOn (Err f) marks = IsEnded at request marks (place_by after.cat z) [] None (end_of f)

    module _ (ran : Result ⊤ Failure) (its : Steps user (Ok ran)) where
      abbrev step_done : IsStepDone (world disk ambient plugin sink source mid) (world disk ambient plugin sink source new) amid.holds.cat rows y (running op)
          [] z after (does_op user op) ran
      step_done = its.ends

      same_marks : step_done.did.marks ≡ step_done.marks
      same_marks = append_cancel_left y.marks step_done.did.marks step_done.marks (sym step_done.did.taken ∙ step_done.marks_are)

    goes_on : (ran : Result ⊤ Failure) (its : Steps user (Ok ran)) → GoesOn ran (taken ++ its.ends.marks)
    goes_on (Ok done) its =
        subst (λ (ms : List Mark). GoesOn (Ok done) (taken ++ ms)) (same_marks (Ok done) its)
        (worked_well at request user op silent p taken (place_by rows.cat y) b behind (place_by after.cat z) its.ends.did)
    goes_on (Err f) its =
        subst (λ (ms : List Mark). GoesOn (Err f) (taken ++ ms)) (same_marks (Err f) its)
        (worked_failed at request user op silent p taken (place_by rows.cat y) b behind (place_by after.cat z) f its.ends.did)

    pub record IsOn (ran : Result ⊤ Failure) : Type 0 where
      pub more : List Mark
      pub amid_so : IsAmid disk ambient plugin sink source (asked_setting at request before x (lines_of x.number)) from new z after (taken ++ more)
      pub so : GoesOn ran (taken ++ more)

    pub is_on : (ran : Result ⊤ Failure) → CallsPass disk plugin sink ⊥ ⊥ mid new → Steps (user_name rows.cat y.user) (Ok ran) → IsOn ran
    is_on ran passes step =
        let its = as_user (Ok ran) step in
        record {
          more = its.ends.marks;
          amid_so = amid_next disk ambient plugin sink source (asked_setting at request before x (lines_of x.number)) from (is_setting at request before x asked (lines_of x.number)) mid new
              (running op) [] (does_op user op) y rows taken amid may main_last z after ran passes its None;
          so = goes_on ran its;
        }

    -- ---- it was cut short

    module _ (does_so : DoesSo at request user (operation op)) (ends : WorksEndByRows) (takes : WorksTakeInOrder) (sends : WorksSendBehind) (works : WorkEnds)
      where
        pub cut_there : (e : Ending) (failed sink_failed : Type 0) → CallsPass disk plugin sink failed sink_failed mid new
            → Steps (user_name rows.cat y.user) (Err e) → Executes disk ambient plugin sink source at request before x from new (Err e) after
        cut_there e failed sink_failed passes step =
            let its = as_user (Err e) step in
            short_executes disk ambient plugin sink source at request before x asked from user (operation op) p b mid y rows taken amid behind does_so tt ends
            takes sends works new
            (cut_next disk ambient plugin sink source (asked_setting at request before x (lines_of x.number)) from (is_setting at request before x asked (lines_of x.number)) mid new (running op) []
            (does_op user op) y rows taken amid may main_last z after e failed sink_failed passes its)
            (passes.frame.stores.count ∙ amid.passes.frame.stores.count) e
            (worn_out disk ambient plugin sink source at request before x asked from mid y rows taken amid new z after (running op) e its.ends) after
