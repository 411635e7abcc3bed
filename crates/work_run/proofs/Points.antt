-- The rules before an operation of a request, and those behind it.
use Rattle.std.proofs.Common.{◌≡◌, Bool, true, false, List, [], ◌++◌, Some, None, Err, length, refl, sym, ap, ◌∙◌, length-append, arith}
use Rattle.std.proofs.lemmas.List.{append-nil}
use Rattle.grid_outside.specs.Ambient.{AmbientState}
use Rattle.grid_outside.specs.Disk.{DiskState}
use Rattle.grid_outside.specs.Files.{StoreState}
use Rattle.grid_outside.specs.Sink.{SinkState}
use Rattle.grid_outside.specs.Source.{SourceState}
use Rattle.grid_model.specs.Names.{Text}
use Rattle.grid_model.specs.Rows.{Cat}
use Rattle.grid_model.specs.RuleText.{Rule}
use Rattle.grid_model.specs.Values.{Env}
use Rattle.grid_model.specs.Meanings.{Meaning, gives}
use Rattle.grid_model.specs.Chains.{Named}
use Rattle.grid_model.specs.Points.{Point, post_name, pre_name}
use Rattle.grid_model.specs.Sessions.{State}
use Rattle.grid_model.specs.Working.{failure_of}
use Rattle.grid_model.specs.Runs.{Request, does}
use Rattle.grid_model.specs.declared.marks.Mark.{Mark}
use Rattle.grid_model.specs.declared.refusal.Failure.{Failure}
use Rattle.grid_model.specs.declared.replies.End.TheVariants as end
use Rattle.grid_journal.specs.Journal.{Journal}
use Rattle.chain_core.specs.Rest.{course, outcome_of}
use Rattle.chain_core.specs.declared.actions.Outcome as told
use Rattle.chain_core.specs.declared.frames.Frames.{Frames}
use Rattle.chain_run.specs.Places.{Place, course_at, course_from}
use Rattle.point_laws.specs.Names.{NamesAreStopped, NamesHalt, NamesTakeInOrder}
use Rattle.point_laws.specs.Works.{IsAskedSo, PreEnds, SendsBehind, Work, WorksEndByRows, WorksSendBehind, WorksTakeInOrder}
use Rattle.run_laws.specs.Passes.{Seen}
use Rattle.service_run.specs.declared.command.Command.{Command}
use Rattle.service_run.specs.declared.ending.Ending.{Ending}
use Rattle.chain_laws.specs.Ending.{leaving}
use Rattle.grid_headline.specs.Files.{IsKnown}
use Rattle.service_run.specs.Steps.{lines_of}
use Rattle.call_laws.specs.Amid.{world}
use Rattle.rule_run.specs.Asked.{IsAsked}
use Rattle.rule_run.specs.Executing.{Executes}
use Rattle.rule_run.specs.Running.{HasRunDry, IsRunShort, WaitsWith, point_from}
use Rattle.work_run.specs.Behind.{IsBehind, IsEnded, Said, from_start, from_work, from_worked}
use Rattle.work_run.specs.Pointed.{point_end, rows_told}
use Rattle.work_run.specs.Telling.{TellsSo}
use Rattle.work_run.specs.Works.{DoesSo}
use Rattle.work_run.proofs.Ends.{cut_as, cut_before, does_marks, tells_more}
use Rattle.work_run.proofs.Pointed.{cut_does, cut_so, did_of, ended_failed, go_post, go_pre, goes_on, post_as, post_end, post_failed, post_rows, post_waits}
use Rattle.work_run.proofs.Pointed.{post_well, pre_as, pre_end, pre_failed, pre_waits, pre_well, unstopped, waits_with}

module _ (at : State) (request : Request) (rules : List Rule) (env : Env) (p : Point) (rules_is : at.rules ≡ rules) (env_is : p.env ≡ env) (m : Frames)
    (q : Place) (taken : List Mark) (off : m.stopped ≡ false) (text : Text) where
  -- ---- before it

  module _ (text_is : pre_name p ≡ text) (user : Text) (w : Work)
      (behind : IsBehind at request taken q m.begun (from_start at (Some p) user w)) where
    pub pre_waits_with : WaitsWith at request (point_from rules env text m q) taken
    pre_waits_with =
        waits_with at request rules env text m q taken (from_start at (Some p) user w) (go_pre at p user w) (pre_waits at p user w)
        (pre_as at p user w rules env text rules_is env_is text_is) behind off

    module _ (halts : NamesHalt) (stopped : NamesAreStopped) (more : List Mark) (o : told.Outcome) (k : Frames) (r : Place)
        (gives_so : (later : List Mark) → point_from rules env text m q (more ++ later)
        ≡ gives (record { state = course k (course_from r later); outcome = outcome_of o })) where
      pub pre_off : failure_of (outcome_of o) ≡ None → k.stopped ≡ false
      pre_off =
          unstopped at request rules env text m q taken (from_start at (Some p) user w) (go_pre at p user w) (pre_waits at p user w)
          (pre_as at p user w rules env text rules_is env_is text_is) behind off halts stopped more o k r gives_so

      pub pre_goes : failure_of (outcome_of o) ≡ None → IsBehind at request (taken ++ more) r k.begun (from_work at (Some p) user w)
      pre_goes none later =
          goes_on at request rules env text m q taken (from_start at (Some p) user w) (go_pre at p user w) (pre_waits at p user w)
          (pre_as at p user w rules env text rules_is env_is text_is) behind off halts stopped more o k r gives_so later
          ∙ pre_well at p user w (course k (course_from r later)) (outcome_of o) none
          ∙ ap (λ (b : Bool). from_work at (Some p) user w (course_at r later k.begun b)) (pre_off none)

      pub pre_ended : (f : Failure) → failure_of (outcome_of o) ≡ Some f → IsEnded at request (taken ++ more) r [] None (point_end end.PreFailed f)
      pre_ended f failed_so =
          ended_failed at request rules env text m q taken (from_start at (Some p) user w) (go_pre at p user w) (pre_waits at p user w)
          (pre_as at p user w rules env text rules_is env_is text_is) behind off halts stopped more o k r gives_so end.PreFailed [] [] None f failed_so
          (pre_failed at p user w (course k (course_from r [])) (outcome_of o) f failed_so) (λ halt stop. refl)

    module _ {D A P K : Type 0} (disk : D → DiskState) (ambient : A → AmbientState) (plugin : P → StoreState) (sink : K → SinkState) (source : SourceState)
        (before : Cat) (x : Command) (asked : IsAsked at request before x) (from new : Seen D A P K) (does_so : DoesSo at request user w)
        (asked_so : IsAskedSo w) (ends : WorksEndByRows) (takes : WorksTakeInOrder) (sends : WorksSendBehind) (orders : NamesTakeInOrder) (pres : PreEnds)
        (place_taken : q.taken ≡ taken) where
      abbrev whole : List Mark → Meaning Named
      whole = point_from rules env text m q

      -- what is sent behind them
      send_so : (more rest : List Mark) (n : Named) → ((later : List Mark) → whole (more ++ (rest ++ later)) ≡ gives (leaving later n))
          → SendsBehind (length (taken ++ more)) (pre_end at p user w pres n).d
      send_so more rest n gives_so sent is =
          let our = pre_end at p user w pres n in
          let its = sends at (Some p) user w (did_of (leaving our.rest n)) our.d our.gives_so our.all sent is in
          let order = orders rules env text [] (course m (course_from q (more ++ (rest ++ [])))) (leaving [] n) (gives_so []) in (
            omega (
              arith,
              its.0,
              ap (λ (ms : List Mark). length ms) order,
              ap (λ (ms : List Mark). length ms) place_taken,
              length-append n.state.taken [],
              length-append q.taken (more ++ (rest ++ [])),
              length-append more (rest ++ []),
              length-append taken more,
            ),
            its.1,
          )

      pub pre_cut : (e : Ending) → IsRunShort disk ambient plugin sink source at request before x (lines_of x.number) from new whole taken
          → HasRunDry disk ambient plugin sink source at request before x (lines_of x.number) from new whole taken e
          → length new.outside.stores.items ≡ length from.outside.stores.items → (after : Journal)
          → Executes disk ambient plugin sink source at request before x from new (Err e) after
      pre_cut =
          cut_so at request rules env text m q taken (from_start at (Some p) user w) (go_pre at p user w) (pre_waits at p user w)
          (pre_as at p user w rules env text rules_is env_is text_is) behind off disk ambient plugin sink source before x asked (lines_of x.number) from new
          (pre_end at p user w pres)
          (λ more rest n gives_so. (let our = pre_end at p user w pres n in
          cut_before x.number at request (IsKnown (world disk ambient plugin sink source from) before) (taken ++ more)
          ((taken ++ more) ++ (rest ++ our.rest)) (record { rest = rest ++ our.rest; are = refl })
          (does_marks at request user w does_so asked_so ends takes ((taken ++ more) ++ (rest ++ our.rest)) our.d
          (cut_does at request rules env text m q taken (from_start at (Some p) user w) (go_pre at p user w) (pre_waits at p user w)
          (pre_as at p user w rules env text rules_is env_is text_is) behind off (pre_end at p user w pres) more rest n gives_so) our.all)
          (send_so more rest n gives_so)))

  -- ---- behind it

  module _ (text_is : post_name p ≡ text) (said : Said) (behind : IsBehind at request taken q m.begun (from_worked at (Some p) said)) where
    pub post_waits_with : WaitsWith at request (point_from rules env text m q) taken
    post_waits_with =
        waits_with at request rules env text m q taken (from_worked at (Some p) said) (go_post at p said) (post_waits at p said)
        (post_as at p said rules env text rules_is env_is text_is) behind off

    module _ (halts : NamesHalt) (stopped : NamesAreStopped) (more : List Mark) (o : told.Outcome) (k : Frames) (r : Place)
        (gives_so : (later : List Mark) → point_from rules env text m q (more ++ later)
        ≡ gives (record { state = course k (course_from r later); outcome = outcome_of o })) where
      post_off : failure_of (outcome_of o) ≡ None → k.stopped ≡ false
      post_off =
          unstopped at request rules env text m q taken (from_worked at (Some p) said) (go_post at p said) (post_waits at p said)
          (post_as at p said rules env text rules_is env_is text_is) behind off halts stopped more o k r gives_so

      pub post_ended_well : failure_of (outcome_of o) ≡ None → IsEnded at request (taken ++ more) r said.rows said.sent (end.Done said.words)
      post_ended_well none = record {
        begun = k.begun;
        stopped = k.stopped;
        found = said.rows;
        told = end.Done said.words;
        does_so = ap (does at request) (sym (append-nil (taken ++ more)))
            ∙ goes_on at request rules env text m q taken (from_worked at (Some p) said) (go_post at p said) (post_waits at p said)
            (post_as at p said rules env text rules_is env_is text_is) behind off halts stopped more o k r gives_so []
            ∙ post_well at p said (course k (course_from r [])) (outcome_of o) none;
        rows_are = ap (λ (b : Bool). elim b [ true ↦ [] | false ↦ said.rows ]) (post_off none);
        end_is = ap (λ (b : Bool). elim b [ true ↦ end.Stopped | false ↦ end.Done said.words ]) (post_off none);
      }

      pub post_ended : (f : Failure) → failure_of (outcome_of o) ≡ Some f
          → IsEnded at request (taken ++ more) r (rows_told (point_end end.PostFailed f) said.rows) said.sent (point_end end.PostFailed f)
      post_ended f failed_so =
          ended_failed at request rules env text m q taken (from_worked at (Some p) said) (go_post at p said) (post_waits at p said)
          (post_as at p said rules env text rules_is env_is text_is) behind off halts stopped more o k r gives_so end.PostFailed said.rows
          (rows_told (point_end end.PostFailed f) said.rows) said.sent f failed_so
          (post_failed at p said (course k (course_from r [])) (outcome_of o) f failed_so)
          (λ halt stop. post_rows (course k (course_from r [])) f said.rows halt stop)

    module _ {D A P K : Type 0} (disk : D → DiskState) (ambient : A → AmbientState) (plugin : P → StoreState) (sink : K → SinkState) (source : SourceState)
        (before : Cat) (x : Command) (asked : IsAsked at request before x) (text_of : List Mark → Text) (from new : Seen D A P K) (user : Text) (w : Work)
        (does_so : DoesSo at request user w) (asked_so : IsAskedSo w) (ends : WorksEndByRows) (takes : WorksTakeInOrder)
        (tells : TellsSo (IsKnown (world disk ambient plugin sink source from) before) x.number text_of said.sent taken) where
      pub post_cut : (e : Ending) → IsRunShort disk ambient plugin sink source at request before x text_of from new (point_from rules env text m q) taken
          → HasRunDry disk ambient plugin sink source at request before x text_of from new (point_from rules env text m q) taken e
          → length new.outside.stores.items ≡ length from.outside.stores.items → (after : Journal)
          → Executes disk ambient plugin sink source at request before x from new (Err e) after
      post_cut =
          cut_so at request rules env text m q taken (from_worked at (Some p) said) (go_post at p said) (post_waits at p said)
          (post_as at p said rules env text rules_is env_is text_is) behind off disk ambient plugin sink source before x asked text_of from new
          (post_end at p said)
          (λ more rest n gives_so. (let our = post_end at p said n in
          cut_as x.number at request (IsKnown (world disk ambient plugin sink source from) before) text_of said.sent (taken ++ more) (rest ++ our.rest)
          (does_marks at request user w does_so asked_so ends takes ((taken ++ more) ++ (rest ++ our.rest)) our.d
          (cut_does at request rules env text m q taken (from_worked at (Some p) said) (go_post at p said) (post_waits at p said)
          (post_as at p said rules env text rules_is env_is text_is) behind off (post_end at p said) more rest n gives_so) our.all) refl
          (tells_more (IsKnown (world disk ambient plugin sink source from) before) x.number text_of said.sent taken more tells)))
