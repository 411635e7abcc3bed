use Rattle.std.proofs.Common.{◌+◌, ◌*◌, ◌^◌, List, [], ◌++◌, None, Some, refl, sym, ◌∙◌, subst, arith}
use Rattle.grid_model.specs.Names.{Text}
use Rattle.grid_model.specs.declared.replies.End.{End}
use Rattle.grid_headline.specs.Ends.{WasDone}
use Rattle.chain_core.specs.Seen.{rules_of}
use Rattle.rule_cond.specs.Scopes.{env_of}
use Rattle.service_run.specs.Commands.{place_by}
use Rattle.service_run.specs.Steps.{lines_of}
use Rattle.call_laws.proofs.Joined.{passes_then, passes_well}
use Rattle.rule_run.proofs.Ended.{amid_first, passes_err, ready_after, ready_less}
use Rattle.rule_run.proofs.Settings.{is_setting}
use Rattle.work_run.specs.Behind.{IsBehind, IsEnded, from_work}
use Rattle.work_run.specs.Telling.{tells_lines}
use Rattle.work_run.specs.Works.{DoesSo}
use Rattle.work_run.proofs.Cut.{marks_are}
use Rattle.work_run.proofs.Deeds.{asked_so, not_done_before}
use Rattle.work_run.proofs.Points.{pre_cut, pre_ended, pre_goes, pre_off, pre_waits_with}
use Rattle.work_run.proofs.before.run_before.Goals as goal
use Rattle.size_laws.proofs.Moments.{takes_some, takes_where}
use Rattle.grid_model.specs.RowGrids.{grid_of}
use Rattle.size_laws.specs.Within.{many}

-- ---- the rules

pub run_point-requires-clause-held : goal.run_point-requires-clause-held
run_point-requires-clause-held g c = (c.args.store.now.cat, c.requires.held)

pub run_point-requires-clause-user : goal.run_point-requires-clause-user
run_point-requires-clause-user g c = c.requires.user

pub run_point-requires-clause-name : goal.run_point-requires-clause-name
run_point-requires-clause-name g c = c.requires.name

pub run_point-requires-clause-slots : goal.run_point-requires-clause-slots
run_point-requires-clause-slots g c = c.requires.slots

pub run_point-requires-clause-words : goal.run_point-requires-clause-words
run_point-requires-clause-words g c = c.requires.keepable.0

pub run_point-requires-clause-kept : goal.run_point-requires-clause-kept
run_point-requires-clause-kept g c = c.requires.keepable.1

pub run_point-requires-clause-checked : goal.run_point-requires-clause-checked
run_point-requires-clause-checked g c = c.requires.checked

pub run_point-requires-clause-ready : goal.run_point-requires-clause-ready
run_point-requires-clause-ready g c =
    ready_less g.D.Disk.disk g.P.Plugin.plugin g.K.Sink.sink (record { outside = c.args.outside.now; sink = c.args.sink.now }) (2 ^ 79)
    (8192 * 2 ^ 65) (omega arith) c.requires.ready

-- ---- they were cut short

pub returns-in-Err-clause-executes : goal.returns-in-Err-clause-executes
returns-in-Err-clause-executes g c source at request w p asked works does_so rules_is rules_called has behind makes =
    let rules = rules_of c.args.rules.now in
    let env = env_of c.args.env in
    let before = c.args.store.now.cat in
    let x = c.args.command in
    let place = place_by before x in
    let amid = amid_first g.D.Disk.disk g.A.Ambient.ambient g.P.Plugin.plugin g.K.Sink.sink source at request before x asked
    (record { outside = c.args.outside.now; sink = c.args.sink.now }) c.args.store.now c.requires.held refl (2 ^ 79) c.requires.ready in
    let ends = c.in-Err.ensures.runs source at request before x (lines_of x.number) (record { outside = c.args.outside.now; sink = c.args.sink.now }) [] (is_setting at request before x asked (lines_of x.number)) amid
    (pre_waits_with at request rules env p rules_is has.env_is c.args.frames place [] c.requires.frames c.args.pre has.pre_is c.args.env.user w behind)
    asked in
    pre_cut at request rules env p rules_is has.env_is c.args.frames place [] c.requires.frames c.args.pre has.pre_is c.args.env.user w behind
    g.D.Disk.disk g.A.Ambient.ambient g.P.Plugin.plugin g.K.Sink.sink source before x asked
    (record { outside = c.args.outside.now; sink = c.args.sink.now })
    (record { outside = c.run_point.new.outside; sink = c.run_point.new.sink })
    does_so (asked_so c.args.verb.now c.args.body.now w works) c.works_end_by_rows.ensures c.works_take_in_order.ensures c.works_send_behind.ensures
    c.names_take_in_order.ensures c.pre_ends.ensures
    (marks_are g.D.Disk.disk g.A.Ambient.ambient g.P.Plugin.plugin g.K.Sink.sink source at request before x asked
    (record { outside = c.args.outside.now; sink = c.args.sink.now }) (lines_of x.number) (record { outside = c.args.outside.now; sink = c.args.sink.now }) x
    c.args.store.now [] amid) c.in-Err.ending ends.0 ends.1
    c.run_point.ensures.passes.frame.stores.count c.run_point.new.store

pub returns-in-Err-clause-passes : goal.returns-in-Err-clause-passes
returns-in-Err-clause-passes g c =
    passes_err g.D.Disk.disk g.P.Plugin.plugin g.K.Sink.sink c.in-Err.ending (record { outside = c.args.outside.now; sink = c.args.sink.now })
    (record { outside = c.run_point.new.outside; sink = c.run_point.new.sink }) c.in-Err.ensures.passes

pub returns-in-Err-clause-drawn : goal.returns-in-Err-clause-drawn
returns-in-Err-clause-drawn g c each most = omega (arith, c.run_point.ensures.drawn each most)

-- ---- they failed

pub conclude-requires-clause-held : goal.conclude-requires-clause-held
conclude-requires-clause-held g c = c.in-Ok.ensures.held

pub conclude-requires-clause-writable : goal.conclude-requires-clause-writable
conclude-requires-clause-writable g c = c.failed_before-end.ensures.writable

pub conclude-requires-clause-rows : goal.conclude-requires-clause-rows
conclude-requires-clause-rows g c = c.no_rows.ensures.words

pub conclude-requires-clause-ready : goal.conclude-requires-clause-ready
conclude-requires-clause-ready g c =
    ready_after g.D.Disk.disk g.P.Plugin.plugin g.K.Sink.sink _ _ (record { outside = c.args.outside.now; sink = c.args.sink.now })
    (record { outside = c.run_point.new.outside; sink = c.run_point.new.sink }) (2 ^ 79) 5 c.run_point.ensures.passes c.requires.ready
    (omega (arith, c.run_point.ensures.drawn (2 ^ 65) many))

pub returns-in-Some-clause-executes : goal.returns-in-Some-clause-executes
returns-in-Some-clause-executes g c source at request w p asked works does_so rules_is rules_called has behind makes =
    let rules = rules_of c.args.rules.now in
    let env = env_of c.args.env in
    let before = c.args.store.now.cat in
    let x = c.args.command in
    let place = place_by before x in
    let amid = amid_first g.D.Disk.disk g.A.Ambient.ambient g.P.Plugin.plugin g.K.Sink.sink source at request before x asked
    (record { outside = c.args.outside.now; sink = c.args.sink.now }) c.args.store.now c.requires.held refl (2 ^ 79) c.requires.ready in
    let runs = c.in-Ok.ensures.runs source at request before x (lines_of x.number) (record { outside = c.args.outside.now; sink = c.args.sink.now }) [] (is_setting at request before x asked (lines_of x.number)) amid
    (pre_waits_with at request rules env p rules_is has.env_is c.args.frames place [] c.requires.frames c.args.pre has.pre_is c.args.env.user w behind)
    asked in
    let E : List (List Text) → End → Type 0 = λ rs e.
    IsEnded at request ([] ++ runs.more) (place_by c.run_point.new.store.cat c.run_point.new.command) rs None e in
    c.conclude.ensures.executes source at request before x (record { outside = c.args.outside.now; sink = c.args.sink.now }) ([] ++ runs.more)
    c.args.env.user w (lines_of x.number) None asked does_so (asked_so c.args.verb.now c.args.body.now w works) runs.amid (tells_lines refl refl)
    (subst (λ (rs : List (List Text)). E rs c.failed_before-end.result) (sym c.no_rows.ensures.is)
    (subst (E []) (sym c.failed_before-end.ensures.is)
    (pre_ended at request rules env p rules_is has.env_is c.args.frames place [] c.requires.frames c.args.pre has.pre_is c.args.env.user w behind
    c.names_halt.ensures c.names_are_stopped.ensures runs.more c.in-Ok.outcome c.run_point.new.frames
    (place_by c.run_point.new.store.cat c.run_point.new.command) runs.gives_so c.in-Some.failure (sym c.failure_of.ensures ∙ c.in-Some.is))))
    (λ calls. absurd (rules_called calls)) (λ was. absurd (not_done_before c.in-Some.failure (subst WasDone c.failed_before-end.ensures.is was)))

pub returns-in-Some-clause-passes : goal.returns-in-Some-clause-passes
returns-in-Some-clause-passes g c =
    passes_then g.D.Disk.disk g.P.Plugin.plugin g.K.Sink.sink _ _ (record { outside = c.args.outside.now; sink = c.args.sink.now })
    (record { outside = c.run_point.new.outside; sink = c.run_point.new.sink })
    (record { outside = c.conclude.new.outside; sink = c.conclude.new.sink })
    (passes_well g.D.Disk.disk g.P.Plugin.plugin g.K.Sink.sink _ _ ⊥ ⊥ (record { outside = c.args.outside.now; sink = c.args.sink.now })
    (record { outside = c.run_point.new.outside; sink = c.run_point.new.sink }) (λ f. cc f) (λ e. e) (λ e. e) c.in-Ok.ensures.passes)
    c.conclude.ensures.passes

pub returns-in-Some-clause-drawn : goal.returns-in-Some-clause-drawn
returns-in-Some-clause-drawn g c each most = omega (arith, c.run_point.ensures.drawn each most, c.conclude.ensures.drawn, takes_some (grid_of c.args.store.now.cat) each most)

-- ---- they held

pub do_work-requires-clause-held : goal.do_work-requires-clause-held
do_work-requires-clause-held g c = c.in-Ok.ensures.held

pub do_work-requires-clause-user : goal.do_work-requires-clause-user
do_work-requires-clause-user g c = c.in-Ok.ensures.kept.0

pub do_work-requires-clause-name : goal.do_work-requires-clause-name
do_work-requires-clause-name g c = c.in-Ok.ensures.kept.3

pub do_work-requires-clause-keepable : goal.do_work-requires-clause-keepable
do_work-requires-clause-keepable g c = (c.in-Ok.ensures.kept.1, c.in-Ok.ensures.kept.2)

pub do_work-requires-clause-slots : goal.do_work-requires-clause-slots
do_work-requires-clause-slots g c =
    omega (
      arith,
      c.in-Ok.ensures.kept.4,
      c.requires.slots,
      c.run_point.ensures.passes.frame.stores.count,
      c.args.outside.now.stores.ok.0,
      c.run_point.new.outside.stores.ok.0,
    )

pub do_work-requires-clause-words : goal.do_work-requires-clause-words
do_work-requires-clause-words g c = c.requires.words

pub do_work-requires-clause-verb : goal.do_work-requires-clause-verb
do_work-requires-clause-verb g c = c.requires.verb

pub do_work-requires-clause-checked : goal.do_work-requires-clause-checked
do_work-requires-clause-checked g c = c.requires.checked

pub do_work-requires-clause-ready : goal.do_work-requires-clause-ready
do_work-requires-clause-ready g c =
    ready_after g.D.Disk.disk g.P.Plugin.plugin g.K.Sink.sink _ _ (record { outside = c.args.outside.now; sink = c.args.sink.now })
    (record { outside = c.run_point.new.outside; sink = c.run_point.new.sink }) (2 ^ 79) (2 ^ 65 + (c.run_point.new.left * 2 ^ 65 + 5))
    c.run_point.ensures.passes c.requires.ready (omega (arith, c.run_point.ensures.drawn (2 ^ 65) many))

pub returns-in-None-clause-executes : goal.returns-in-None-clause-executes
returns-in-None-clause-executes g c source at request w p asked works does_so rules_is rules_called has behind makes =
    let rules = rules_of c.args.rules.now in
    let env = env_of c.args.env in
    let before = c.args.store.now.cat in
    let x = c.args.command in
    let place = place_by before x in
    let amid = amid_first g.D.Disk.disk g.A.Ambient.ambient g.P.Plugin.plugin g.K.Sink.sink source at request before x asked
    (record { outside = c.args.outside.now; sink = c.args.sink.now }) c.args.store.now c.requires.held refl (2 ^ 79) c.requires.ready in
    let runs = c.in-Ok.ensures.runs source at request before x (lines_of x.number) (record { outside = c.args.outside.now; sink = c.args.sink.now }) [] (is_setting at request before x asked (lines_of x.number)) amid
    (pre_waits_with at request rules env p rules_is has.env_is c.args.frames place [] c.requires.frames c.args.pre has.pre_is c.args.env.user w behind)
    asked in
    c.do_work.ensures.executes source at request before x (record { outside = c.args.outside.now; sink = c.args.sink.now }) ([] ++ runs.more) w (Some p) asked
    works (subst (λ (u : Text). DoesSo at request u w) (sym c.in-Ok.ensures.kept.3) does_so) (
      p,
      refl,
      record {
        rules_are = rules_is;
        calls = rules_called;
        unstopped = pre_off at request rules env p rules_is has.env_is c.args.frames place [] c.requires.frames c.args.pre has.pre_is c.args.env.user w behind
            c.names_halt.ensures c.names_are_stopped.ensures runs.more c.in-Ok.outcome c.run_point.new.frames
            (place_by c.run_point.new.store.cat c.run_point.new.command) runs.gives_so (sym c.failure_of.ensures ∙ c.in-None.is);
        env_is = has.env_is;
        name_is = has.post_is;
      },
    )
    runs.amid
    (subst (λ (u : Text). IsBehind at request ([] ++ runs.more) (place_by c.run_point.new.store.cat c.run_point.new.command) c.run_point.new.frames.begun
    (from_work at (Some p) u w)) (sym c.in-Ok.ensures.kept.3)
    (pre_goes at request rules env p rules_is has.env_is c.args.frames place [] c.requires.frames c.args.pre has.pre_is c.args.env.user w behind
    c.names_halt.ensures c.names_are_stopped.ensures runs.more c.in-Ok.outcome c.run_point.new.frames
    (place_by c.run_point.new.store.cat c.run_point.new.command) runs.gives_so (sym c.failure_of.ensures ∙ c.in-None.is)))
    (λ calls. absurd (rules_called calls)) makes

pub returns-in-None-clause-passes : goal.returns-in-None-clause-passes
returns-in-None-clause-passes g c =
    passes_then g.D.Disk.disk g.P.Plugin.plugin g.K.Sink.sink _ _ (record { outside = c.args.outside.now; sink = c.args.sink.now })
    (record { outside = c.run_point.new.outside; sink = c.run_point.new.sink })
    (record { outside = c.do_work.new.outside; sink = c.do_work.new.sink })
    (passes_well g.D.Disk.disk g.P.Plugin.plugin g.K.Sink.sink _ _ ⊥ ⊥ (record { outside = c.args.outside.now; sink = c.args.sink.now })
    (record { outside = c.run_point.new.outside; sink = c.run_point.new.sink }) (λ f. cc f) (λ e. e) (λ e. e) c.in-Ok.ensures.passes)
    c.do_work.ensures.passes

pub returns-in-None-clause-drawn : goal.returns-in-None-clause-drawn
returns-in-None-clause-drawn g c each most =
    omega (
      arith,
      c.run_point.ensures.drawn each most,
      c.do_work.ensures.drawn each (takes_where (grid_of c.args.store.now.cat) (grid_of c.run_point.new.store.cat) each c.in-Ok.ensures.within most),
      takes_some (grid_of c.args.store.now.cat) each most,
    )
