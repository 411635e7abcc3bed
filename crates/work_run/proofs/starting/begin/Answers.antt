use Rattle.std.proofs.Common.{◌+◌, ◌^◌, [], None, refl, sym, ◌∙◌, arith}
use Rattle.grid_model.specs.RowGrids.{user_name, grid_of}
use Rattle.chain_core.specs.Seen.{rules_of}
use Rattle.rule_run.proofs.Ended.{amid_first, keepable_first, ready_less}
use Rattle.rule_run.proofs.Passing.{passes_none}
use Rattle.work_run.proofs.Begun.{begins_alone, cut_first}
use Rattle.work_run.proofs.Deeds.{asked_so}
use Rattle.work_run.proofs.NoRules.{has_none}
use Rattle.work_run.proofs.starting.begin.Goals as goal
use Rattle.size_laws.proofs.Moments.{takes_some}

-- ---- there was no memory for the names

pub returns-in-Err-clause-executes : goal.returns-in-Err-clause-executes
returns-in-Err-clause-executes g c source at request w asked works does_so rules_is makes =
    let rows = c.args.store.now in
    let x = c.args.command in
    let user = user_name rows.cat x.user in
    let from_here = amid_first g.D.Disk.disk g.A.Ambient.ambient g.P.Plugin.plugin g.K.Sink.sink source at request rows.cat x asked
    (record { outside = c.args.outside.now; sink = c.args.sink.now }) rows c.requires.held refl (2 ^ 79) c.requires.ready in
    cut_first at request rows.cat x asked user w does_so g.D.Disk.disk g.A.Ambient.ambient g.P.Plugin.plugin g.K.Sink.sink source
    (record { outside = c.args.outside.now; sink = c.args.sink.now }) rows from_here c.names_complete.ensures c.pre_ends.ensures
    c.works_end_by_rows.ensures c.works_take_in_order.ensures c.works_send_behind.ensures (asked_so c.args.verb.now c.args.body.now w works)
    c.args.frames c.requires.frames.0 c.requires.frames.1 rows

pub returns-in-Err-clause-passes : goal.returns-in-Err-clause-passes
returns-in-Err-clause-passes g c =
    passes_none g.D.Disk.disk g.P.Plugin.plugin g.K.Sink.sink _ _ (λ f. cc f) (λ f. cc f) (record { outside = c.args.outside.now; sink = c.args.sink.now })

-- ---- with rules

pub do_ruled-requires-clause-held : goal.do_ruled-requires-clause-held
do_ruled-requires-clause-held g c = c.requires.held

pub do_ruled-requires-clause-user : goal.do_ruled-requires-clause-user
do_ruled-requires-clause-user g c = c.requires.user

pub do_ruled-requires-clause-keepable : goal.do_ruled-requires-clause-keepable
do_ruled-requires-clause-keepable g c = (
  record { run = c.are_kept.ensures.0; number = c.are_kept.ensures.1; user = c.are_kept.ensures.2; line = c.requires.line },
  keepable_first c.args.command c.requires.begun.0 c.requires.begun.1,
)

pub do_ruled-requires-clause-slots : goal.do_ruled-requires-clause-slots
do_ruled-requires-clause-slots g c = c.requires.slots

pub do_ruled-requires-clause-words : goal.do_ruled-requires-clause-words
do_ruled-requires-clause-words g c = c.requires.words

pub do_ruled-requires-clause-verb : goal.do_ruled-requires-clause-verb
do_ruled-requires-clause-verb g c = c.requires.verb

pub do_ruled-requires-clause-named : goal.do_ruled-requires-clause-named
do_ruled-requires-clause-named g c = c.in-Ok.ensures.operation c.in-Some.names c.in-Some.is

pub do_ruled-requires-clause-pre : goal.do_ruled-requires-clause-pre
do_ruled-requires-clause-pre g c = c.in-Ok.ensures.pre c.in-Some.names c.in-Some.is

pub do_ruled-requires-clause-post : goal.do_ruled-requires-clause-post
do_ruled-requires-clause-post g c = c.in-Ok.ensures.post c.in-Some.names c.in-Some.is

pub do_ruled-requires-clause-frames : goal.do_ruled-requires-clause-frames
do_ruled-requires-clause-frames g c = c.requires.frames

pub do_ruled-requires-clause-checked : goal.do_ruled-requires-clause-checked
do_ruled-requires-clause-checked g c = c.requires.checked

pub do_ruled-requires-clause-ready : goal.do_ruled-requires-clause-ready
do_ruled-requires-clause-ready g c = c.requires.ready

pub returns-in-Some-clause-executes : goal.returns-in-Some-clause-executes
returns-in-Some-clause-executes g c source at request w asked works does_so rules_is makes =
    c.do_ruled.ensures.executes source at request w asked works does_so rules_is
    (λ calls. let off = sym c.in-Some.is ∙ c.in-Ok.ensures.some (sym rules_is ∙ calls.1) in cc off) makes

pub returns-in-Some-clause-passes : goal.returns-in-Some-clause-passes
returns-in-Some-clause-passes g c = c.do_ruled.ensures.passes

pub returns-in-Some-clause-idle : goal.returns-in-Some-clause-idle
returns-in-Some-clause-idle g c none idle = absurd (let off = sym c.in-Some.is ∙ c.in-Ok.ensures.some none in cc off)

pub returns-in-Some-clause-files : goal.returns-in-Some-clause-files
returns-in-Some-clause-files g c count place none is = absurd (let off = sym c.in-Some.is ∙ c.in-Ok.ensures.some none in cc off)

pub returns-in-Some-clause-drawn : goal.returns-in-Some-clause-drawn
returns-in-Some-clause-drawn g c = c.do_ruled.ensures.drawn

-- ---- without rules

pub do_work-requires-clause-held : goal.do_work-requires-clause-held
do_work-requires-clause-held g c = (c.args.store.now.cat, c.requires.held)

pub do_work-requires-clause-user : goal.do_work-requires-clause-user
do_work-requires-clause-user g c = c.requires.user

pub do_work-requires-clause-keepable : goal.do_work-requires-clause-keepable
do_work-requires-clause-keepable g c = (
  record { run = c.are_kept.ensures.0; number = c.are_kept.ensures.1; user = c.are_kept.ensures.2; line = c.requires.line },
  keepable_first c.args.command c.requires.begun.0 c.requires.begun.1,
)

pub do_work-requires-clause-name : goal.do_work-requires-clause-name
do_work-requires-clause-name g c = tt

pub do_work-requires-clause-checked : goal.do_work-requires-clause-checked
do_work-requires-clause-checked g c = c.requires.checked

pub do_work-requires-clause-slots : goal.do_work-requires-clause-slots
do_work-requires-clause-slots g c = c.requires.slots

pub do_work-requires-clause-words : goal.do_work-requires-clause-words
do_work-requires-clause-words g c = c.requires.words

pub do_work-requires-clause-verb : goal.do_work-requires-clause-verb
do_work-requires-clause-verb g c = c.requires.verb

pub do_work-requires-clause-ready : goal.do_work-requires-clause-ready
do_work-requires-clause-ready g c =
    ready_less g.D.Disk.disk g.P.Plugin.plugin g.K.Sink.sink (record { outside = c.args.outside.now; sink = c.args.sink.now }) (2 ^ 79) (2 ^ 65 + 5)
    (omega arith) c.requires.ready

pub returns-in-None-clause-executes : goal.returns-in-None-clause-executes
returns-in-None-clause-executes g c source at request w asked works does_so rules_is makes =
    let rows = c.args.store.now in
    let x = c.args.command in
    let user = user_name rows.cat x.user in
    c.do_work.ensures.executes source at request rows.cat x (record { outside = c.args.outside.now; sink = c.args.sink.now }) [] w None asked works does_so refl
    (amid_first g.D.Disk.disk g.A.Ambient.ambient g.P.Plugin.plugin g.K.Sink.sink source at request rows.cat x asked
    (record { outside = c.args.outside.now; sink = c.args.sink.now }) rows c.requires.held refl (2 ^ 79) c.requires.ready)
    (begins_alone at request rows.cat x asked user w does_so
    (has_none at (rules_of c.args.rules.now) rules_is user c.args.verb.now c.args.body.now w works (λ operation is. c.in-Ok.ensures.none operation c.in-None.is is)))
    (λ calls. (record { staged = c.requires.staged; pending = c.requires.pending; marks = c.requires.begun.0 }, refl, λ told. refl)) makes

pub returns-in-None-clause-passes : goal.returns-in-None-clause-passes
returns-in-None-clause-passes g c = c.do_work.ensures.passes

pub returns-in-None-clause-idle : goal.returns-in-None-clause-idle
returns-in-None-clause-idle g c none idle =
    c.do_work.ensures.idle refl (record { staged = c.requires.staged; pending = c.requires.pending; marks = c.requires.begun.0 }) idle

pub returns-in-None-clause-files : goal.returns-in-None-clause-files
returns-in-None-clause-files g c count place none is = c.do_work.ensures.files count place refl is

pub returns-in-None-clause-drawn : goal.returns-in-None-clause-drawn
returns-in-None-clause-drawn g c each most = omega (arith, c.do_work.ensures.drawn each most, takes_some (grid_of c.args.store.now.cat) each most)
