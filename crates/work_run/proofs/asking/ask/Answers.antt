use Rattle.std.proofs.Common.{◌^◌, refl, sym, ◌∙◌, subst, ◌+◌, arith}
use Rattle.grid_model.specs.Names.{Text}
use Rattle.grid_model.specs.QueryOrders.{ReadsQuery}
use Rattle.grid_model.specs.RowGrids.{user_name}
use Rattle.point_laws.specs.Works.{query}
use Rattle.rule_run.proofs.Ended.{amid_first}
use Rattle.rule_run.proofs.Passing.{passes_none}
use Rattle.work_run.proofs.Begun.{cut_first}
use Rattle.work_run.proofs.Deeds.{query_so}
use Rattle.work_run.proofs.asking.ask.Goals as goal
use Rattle.size_laws.specs.Within.{few, many}

-- ---- there was no memory for its text

pub returns-in-Err-clause-executes : goal.returns-in-Err-clause-executes
returns-in-Err-clause-executes g c source at request q asked reads does_so rules_is makes =
    let rows = c.args.store.now in
    let x = c.args.command in
    cut_first at request rows.cat x asked (user_name rows.cat x.user) (query q) does_so g.D.Disk.disk g.A.Ambient.ambient g.P.Plugin.plugin g.K.Sink.sink source (record { outside = c.args.outside.now; sink = c.args.sink.now }) rows
    (amid_first g.D.Disk.disk g.A.Ambient.ambient g.P.Plugin.plugin g.K.Sink.sink source at request rows.cat x asked (record { outside = c.args.outside.now; sink = c.args.sink.now }) rows c.requires.held refl (2 ^ 79) c.requires.ready)
    c.names_complete.ensures c.pre_ends.ensures c.works_end_by_rows.ensures c.works_take_in_order.ensures c.works_send_behind.ensures
    (query_so c.args.text.now q reads) c.new-frames.result c.new-frames.ensures.begun c.new-frames.ensures.stopped rows

pub returns-in-Err-clause-passes : goal.returns-in-Err-clause-passes
returns-in-Err-clause-passes g c =
    passes_none g.D.Disk.disk g.P.Plugin.plugin g.K.Sink.sink _ _ (λ f. cc f) (λ f. cc f) (record { outside = c.args.outside.now; sink = c.args.sink.now })

-- ---- it is asked

pub begin-ended-requires-clause-held : goal.begin-ended-requires-clause-held
begin-ended-requires-clause-held g c = c.requires.held

pub begin-ended-requires-clause-staged : goal.begin-ended-requires-clause-staged
begin-ended-requires-clause-staged g c = c.requires.staged

pub begin-ended-requires-clause-pending : goal.begin-ended-requires-clause-pending
begin-ended-requires-clause-pending g c = c.requires.pending

pub begin-ended-requires-clause-user : goal.begin-ended-requires-clause-user
begin-ended-requires-clause-user g c = c.requires.user

pub begin-ended-requires-clause-line : goal.begin-ended-requires-clause-line
begin-ended-requires-clause-line g c = c.requires.line

pub begin-ended-requires-clause-begun : goal.begin-ended-requires-clause-begun
begin-ended-requires-clause-begun g c = c.requires.begun

pub begin-ended-requires-clause-slots : goal.begin-ended-requires-clause-slots
begin-ended-requires-clause-slots g c = c.requires.slots

pub begin-ended-requires-clause-checked : goal.begin-ended-requires-clause-checked
begin-ended-requires-clause-checked g c = c.requires.checked

pub begin-ended-requires-clause-ready : goal.begin-ended-requires-clause-ready
begin-ended-requires-clause-ready g c = c.requires.ready

pub begin-ended-requires-clause-words : goal.begin-ended-requires-clause-words
begin-ended-requires-clause-words g c = tt

pub begin-ended-requires-clause-verb : goal.begin-ended-requires-clause-verb
begin-ended-requires-clause-verb g c = tt

pub begin-ended-requires-clause-frames : goal.begin-ended-requires-clause-frames
begin-ended-requires-clause-frames g c = (c.new-frames.ensures.begun, c.new-frames.ensures.stopped)

pub returns-clause-executes : goal.returns-clause-executes
returns-clause-executes g c source at request q asked reads does_so rules_is makes =
    c.begin-ended.ensures.executes source at request (query q) asked (subst (λ (t : Text). ReadsQuery t q) (sym (c.in-Ok.ensures ∙ c.as_slice.ensures)) reads) does_so rules_is
    makes

pub returns-clause-passes : goal.returns-clause-passes
returns-clause-passes g c = c.begin-ended.ensures.passes

pub returns-clause-idle : goal.returns-clause-idle
returns-clause-idle g c none = c.begin-ended.ensures.idle none tt

pub returns-clause-files : goal.returns-clause-files
returns-clause-files g c place none is = c.begin-ended.ensures.files 0 place none is

pub returns-clause-drawn : goal.returns-clause-drawn
returns-clause-drawn g c = omega (arith, c.begin-ended.ensures.drawn (2 ^ 65) many)

pub returns-clause-few : goal.returns-clause-few
returns-clause-few g c within = omega (arith, c.begin-ended.ensures.drawn (2 ^ 20) (few within))
